use Rattle.conflict_analysis.proofs.Passing.{popped_past, popped_next, nothing_left}
use Rattle.std.proofs.Common.{arith}
use Rattle.conflict_analysis.proofs.places.Places.next_below.Goals as goal

pub returns-then-place-below-clause-some : goal.returns-then-place-below-clause-some
returns-then-place-below-clause-some c =
    popped_next c.args.self.now _ _ c.args.below c.in-Some.place c.places.invariant.kept
    c.in-Some.ensures.permutation (omega (arith, c.if-place-below.true))
    (c.in-Some.ensures.heap_order c.places.invariant.ordered).1

pub places-preserved : goal.places-preserved
places-preserved c = record {
  ordered = (c.in-Some.ensures.heap_order c.places.invariant.ordered).0;
  kept = popped_past c.args.self.now _ _ c.args.below c.in-Some.place c.places.invariant.kept
      c.in-Some.ensures.permutation (omega (arith, c.if-place-below.false));
}

pub returns-clause-none : goal.returns-clause-none
returns-clause-none c =
    nothing_left c.args.self.now _ c.args.below c.places.invariant.kept
    (omega (arith, c.in_default.ensures.none, c.places.self-inside.heap.data.ok.0))
