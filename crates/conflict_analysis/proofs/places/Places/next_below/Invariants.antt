use Rattle.std.proofs.Common.{◌<◌, ℕ, length, Contains}
use Rattle.std.specs.BinaryHeap.{heap_items, IsHeap}
use Rattle.std.specs.Ordering.{nat_cmp}
use Rattle.conflict_analysis.proofs.places.Places.next_below.Given as goal

abbrev pub invariant-places : goal.invariant-places
invariant-places l = record {
  ordered : IsHeap nat_cmp (heap_items l.self-inside.heap);
  kept : (j : ℕ) → Contains l.fn.self j → j < l.below → Contains (heap_items l.self-inside.heap) j;
}

abbrev pub decreases-places : goal.decreases-places
decreases-places l = length (heap_items l.self-inside.heap)
