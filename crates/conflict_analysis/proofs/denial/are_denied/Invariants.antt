use Rattle.std.proofs.Common.{◌≢◌, ℕ, ◌<◌, length}
use Rattle.stn_core.specs.Literal.{negation_of, literal_at}
use Rattle.conflict_analysis.specs.code.Trails.{Stands}
use Rattle.conflict_analysis.proofs.denial.are_denied.Given as goal

abbrev pub invariant-loop-q : goal.invariant-loop-q
invariant-loop-q l = record {
  denied : (i : ℕ) → i < l.q → i ≢ l.place → Stands l.entries (length l.entries) (negation_of (literal_at l.clause i));
}
