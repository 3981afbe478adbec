use Rattle.std.proofs.Common.{◌≡◌, map}
use Rattle.neg_cycle.proofs.Cuts.{IsWalking, x_of}
use Rattle.neg_cycle.proofs.cut.cut_walk.Given as goal

abbrev pub invariant-walk : goal.invariant-walk
invariant-walk l = record {
  walking : IsWalking l.fn.walk l.path.items l.literal-index;
  points : l.points.keys ≡ map x_of l.path.items;
}
