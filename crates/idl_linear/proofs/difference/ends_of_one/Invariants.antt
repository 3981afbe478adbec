use Rattle.std.proofs.Common.{◌≡◌, ◌<◌, Some, length}
use Rattle.idl_linear.specs.Limits.{points_limit}
use Rattle.idl_linear.specs.Differences.{ends_of}
use Rattle.idl_linear.specs.code.Steps.{IsRest, ends_through}
use Rattle.idl_linear.proofs.difference.ends_of_one.Given as goal

abbrev pub invariant-loop-summand : goal.invariant-loop-summand
invariant-loop-summand l = record {
  rest : IsRest l.cursor;
  same : ends_through (Some l.ends) l.cursor ≡ ends_of l.term.summands;
  x : l.ends.x < points_limit;
  y : l.ends.y < points_limit;
}

abbrev pub decreases-loop-summand : goal.decreases-loop-summand
decreases-loop-summand l = length l.cursor
