use Rattle.std.proofs.Common.{ℕ, ◌<◌}
use Rattle.idl_cases.specs.code.GuardBounds.{AreGuardsBelow}
use Rattle.idl_apply.specs.code.Repeats.{term_at}
use Rattle.idl_apply.proofs.Arguments.{seen}
use Rattle.idl_apply.proofs.repeated.fingerprints.Given as goal

abbrev pub invariant-loop-term : goal.invariant-loop-term
invariant-loop-term l = record {
  guarded : (k : ℕ) → k < l.term-index → AreGuardsBelow l.count (term_at (seen l.terms) k);
}
