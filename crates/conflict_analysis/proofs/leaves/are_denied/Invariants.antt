use Rattle.std.proofs.Common.{◌≢◌, ℕ, ◌<◌}
use Rattle.stn_core.specs.Literal.{negation_of, literal_at}
use Rattle.conflict_analysis.specs.code.Leaves.{StandsAssumed}
use Rattle.conflict_analysis.proofs.leaves.are_denied.Given as goal

abbrev pub invariant-loop-q : goal.invariant-loop-q
invariant-loop-q g l = record {
  denied : (i : ℕ) → i < l.q → i ≢ l.place → StandsAssumed l.graph.trail l.roles l.leaves l.below (negation_of (literal_at l.clause i));
}
