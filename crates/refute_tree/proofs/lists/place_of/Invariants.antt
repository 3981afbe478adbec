use Rattle.std.proofs.Common.{◌≤◌, length}
use Rattle.refute_tree.specs.code.Lists.{IsPlaceOf}
use Rattle.refute_tree.proofs.lists.place_of.Given as goal

abbrev pub invariant-back : goal.invariant-back
invariant-back l = record {
  least : l.step ≤ l.place.kinds;
  most : l.place.kinds ≤ length l.slices.kinds.now;
  place : IsPlaceOf l.slices l.place.kinds l.place;
}

abbrev pub decreases-back : goal.decreases-back
decreases-back l = l.place.kinds
