use Rattle.std.proofs.Common.{◌≡◌, ◌∙◌, subst}
use Rattle.book_lock.specs.declared.cube.Dealt.TheVariants.{Idle, Done}
use Rattle.steal_search.specs.Workers.{IsAnswered, pauses_in}
use Rattle.steal_search.proofs.Going.{goes_on, takes_on, takes_answered, answered_none}
use Rattle.steal_search.proofs.Pauses.{take_pauses}
use Rattle.steal_search.proofs.beside.hold.Goals as goal

pub returns-in-Cube-clause-pauses : goal.returns-in-Cube-clause-pauses
returns-in-Cube-clause-pauses g c = take_pauses c.loop.seat c.take.new.seat c.take.result c.take.ensures.ok c.take.ensures.err ∙ c.loop.invariant.pauses

pub loop-preserved : goal.loop-preserved
loop-preserved g c = record {
  seat = goes_on c.args.seat.now c.loop.seat c.take.new.seat c.loop.invariant.seat (takes_on c.loop.seat c.take.new.seat c.in_ok-take.field-0 c.in_ok-take.ensures.ok);
  none = answered_none c.take.new.seat c.in_ok-take.field-0 c.in-Idle.is (takes_answered c.loop.seat c.take.new.seat c.in_ok-take.field-0 c.in_ok-take.ensures.ok);
  pauses = take_pauses c.loop.seat c.take.new.seat c.take.result c.take.ensures.ok c.take.ensures.err ∙ c.loop.invariant.pauses;
}

pub returns-in-Done-clause-ended : goal.returns-in-Done-clause-ended
returns-in-Done-clause-ended g c is = subst (IsAnswered c.take.new.seat) c.in-Done.is (takes_answered c.loop.seat c.take.new.seat c.in_ok-take.field-0 c.in_ok-take.ensures.ok)

pub returns-in-Done-clause-pauses : goal.returns-in-Done-clause-pauses
returns-in-Done-clause-pauses g c = take_pauses c.loop.seat c.take.new.seat c.take.result c.take.ensures.ok c.take.ensures.err ∙ c.loop.invariant.pauses
