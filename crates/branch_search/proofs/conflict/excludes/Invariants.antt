use Rattle.std.proofs.Common.{◌≡◌, ◌<◌, ℕ, length}
use Rattle.stn_core.specs.Literal.{negation_of, literal_at}
use Rattle.branch_search.proofs.conflict.excludes.Given as goal

abbrev pub invariant-loop-q : goal.invariant-loop-q
invariant-loop-q l = record {
  each : (i : ℕ) → i < l.q → (k : ℕ) × (k < length l.cube) × (literal_at l.cube k ≡ negation_of (literal_at l.clause i));
}
