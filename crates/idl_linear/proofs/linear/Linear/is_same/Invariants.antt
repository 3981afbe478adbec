use Rattle.std.proofs.Common.{◌≡◌, length}
use Rattle.idl_linear.proofs.linear.Linear.is_same.Given as goal

abbrev pub invariant-loop-summand : goal.invariant-loop-summand
invariant-loop-summand l = record {
  same : l.left ≡ l.right → l.self.summands ≡ l.other.summands;
}

abbrev pub decreases-loop-summand : goal.decreases-loop-summand
decreases-loop-summand l = length l.left
