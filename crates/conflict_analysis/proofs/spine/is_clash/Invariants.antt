use Rattle.std.proofs.Common.{ℕ, ◌<◌, length}
use Rattle.stn_core.specs.Literal.{negation_of, literal_at}
use Rattle.conflict_analysis.specs.code.Leaves.{StandsAssumed}
use Rattle.conflict_analysis.proofs.spine.is_clash.Given as goal

abbrev pub invariant-loop-q : goal.invariant-loop-q
invariant-loop-q g l = record {
  assumed : (i : ℕ) → i < l.q → StandsAssumed l.graph.trail l.outline.roles.now l.outline.leaves.now (length l.graph.trail) (negation_of (literal_at l.clause i));
}
