use Rattle.std.proofs.Common.{arith, sym, ◌∙◌}
use Rattle.book_search.proofs.Learned.{found_all, found_before, found_never, found_now}
use Rattle.book_search.proofs.solved.has_schedule.Goals as goal

pub loop-left-init : goal.loop-left-init
loop-left-init c = record {
  within = omega arith;
  same = found_all c.args.book.now c.journal-events.result.now c.journal-events.ensures;
}

pub loop-left-preserved : goal.loop-left-preserved
loop-left-preserved c = record {
  within = omega (arith, c.loop-left.invariant.within);
  same = found_before c.args.book.now c.journal-events.result.now c.loop-left.left c.index-events-left.result c.loop-left-test.true c.loop-left.invariant.within c.index-events-left.is c.loop-left.invariant.same (sym c.brings_schedule.ensures ∙ c.if-brings_schedule.false);
}

pub returns-then-brings_schedule : goal.returns-then-brings_schedule
returns-then-brings_schedule c =
    found_now c.args.book.now c.journal-events.result.now c.loop-left.left c.index-events-left.result c.loop-left-test.true c.loop-left.invariant.within c.index-events-left.is c.loop-left.invariant.same (sym c.brings_schedule.ensures ∙ c.if-brings_schedule.true)

pub returns : goal.returns
returns c = found_never c.args.book.now c.journal-events.result.now c.loop-left.left (omega (arith, c.loop-left-test.false)) c.loop-left.invariant.same
