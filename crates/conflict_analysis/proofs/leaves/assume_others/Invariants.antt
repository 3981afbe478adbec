use Rattle.std.proofs.Common.{◌≡◌, ◌⊎◌, ℕ, ◌<◌}
use Rattle.stn_core.specs.Literal.{negation_of, literal_at}
use Rattle.conflict_analysis.specs.code.Leaves.{IsFewer, StandsAssumed}
use Rattle.conflict_analysis.proofs.leaves.assume_others.Given as goal

abbrev pub invariant-loop-q : goal.invariant-loop-q
invariant-loop-q g l = record {
  fewer : IsFewer l.fn.leaves.items l.leaves.items;
  assumed : (i : ℕ) → i < l.q → (literal_at l.cycle i ≡ negation_of l.fn.literal) ⊎ StandsAssumed l.graph.trail l.roles l.leaves.items l.below (literal_at l.cycle i);
}
