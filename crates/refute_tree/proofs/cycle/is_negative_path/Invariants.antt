use Rattle.std.proofs.Common.{◌≡◌, ◌^◌, ◌*◌, drop, pos, neg_ℤ, ◌+ℤ◌, ◌≤ℤ◌}
use Rattle.refute_tree.proofs.PathParts.{sum_of}
use Rattle.refute_tree.proofs.cycle.is_negative_path.Given as goal

abbrev pub invariant-loop-bound : goal.invariant-loop-bound
invariant-loop-bound l = record {
  rest : l.sum +ℤ sum_of (drop l.bound-index l.bounds) ≡ sum_of l.bounds;
  above : neg_ℤ (pos (2 ^ 31 * l.bound-index)) ≤ℤ l.sum;
  below : l.sum ≤ℤ pos (2 ^ 31 * l.bound-index);
}
