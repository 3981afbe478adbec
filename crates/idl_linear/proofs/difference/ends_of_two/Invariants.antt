use Rattle.std.proofs.Common.{◌≡◌, ◌<◌, ◌+◌, Some, length}
use Rattle.idl_linear.specs.Limits.{points_limit}
use Rattle.idl_linear.specs.Differences.{ends_of}
use Rattle.idl_linear.specs.code.Steps.{IsRest, less, ends_through}
use Rattle.idl_linear.proofs.difference.ends_of_two.Given as goal

abbrev pub invariant-loop-summand : goal.invariant-loop-summand
invariant-loop-summand l = record {
  left : IsRest l.merge.left;
  right : IsRest l.merge.right;
  same : ends_through (Some l.ends) (less l.merge.left l.merge.right) ≡ ends_of (less l.a.summands l.b.summands);
  x : l.ends.x < points_limit;
  y : l.ends.y < points_limit;
}

abbrev pub decreases-loop-summand : goal.decreases-loop-summand
decreases-loop-summand l = length l.merge.left + length l.merge.right
