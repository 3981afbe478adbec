use Rattle.std.proofs.Common.{arith, List, true}
use Rattle.stn_core.specs.declared.literal.Literal.{Literal}
use Rattle.cert_check.specs.code.Walks.{cases_open}
use Rattle.cert_check.proofs.Stacks.{place_within, cut_stack, closed_all, next_stack, next_cases}
use Rattle.cert_check.proofs.Closing.{goes_then}
use Rattle.cert_check.proofs.walk.Walk.advance.Goals as goal

pub overflow_add-frame : goal.overflow_add-frame
overflow_add-frame c =
    let place = place_within _ _ _ _ _ c.in-Some.ensures.items c.loop-frame.invariant.stack c.cut.ensures in
    let count = c.len-count.ensures in
    omega (arith, place, count)

pub close_cases-next-requires : goal.close_cases-next-requires
close_cases-next-requires c =
    let place = place_within _ _ _ _ _ c.in-Some.ensures.items c.loop-frame.invariant.stack c.cut.ensures in
    omega (arith, place)

pub literal-requires : goal.literal-requires
literal-requires c = place_within _ _ _ _ _ c.in-Some.ensures.items c.loop-frame.invariant.stack c.cut.ensures

pub enter-requires-clause-stack : goal.enter-requires-clause-stack
enter-requires-clause-stack c = next_stack _ _ _ _ _ c.in-Some.ensures.items c.loop-frame.invariant.stack c.cut.ensures _ _ c.in_ok-assume.ensures.ok

pub returns-then-next-count-clause-cases : goal.returns-then-next-count-clause-cases
returns-then-next-count-clause-cases c =
    let now : List (List Literal) = cases_open true c.enter.new.self in
    goes_then _ _ now c.args.reader.now c.loop-frame.reader c.close_cases-next.new.reader c.loop-frame.invariant.goes
    (next_cases _ _ _ _ _ c.in-Some.ensures.items c.loop-frame.invariant.stack c.cut.ensures _ _ c.in_ok-assume.ensures.ok
    c.literal.result c.close_cases-next.result c.loop-frame.reader c.close_cases-next.new.reader now c.literal.ensures c.negate-denied.ensures c.close_cases-next.ensures.closed c.in_ok-enter.ensures.cases)

pub loop-frame-preserved : goal.loop-frame-preserved
loop-frame-preserved c =
    let last = c.if-next-count.false in
    let count = c.len-count.ensures in
    record {
      stack = cut_stack _ _ _ _ _ c.in-Some.ensures.items c.loop-frame.invariant.stack c.cut.ensures;
      goes =
          goes_then _ _ _ c.args.reader.now c.loop-frame.reader c.close_cases-next.new.reader c.loop-frame.invariant.goes
          (closed_all _ _ _ _ _ c.in-Some.ensures.items c.loop-frame.invariant.stack c.cut.ensures c.close_cases-next.result c.loop-frame.reader c.close_cases-next.new.reader (omega (arith, last, count)) c.close_cases-next.ensures.closed);
    }
