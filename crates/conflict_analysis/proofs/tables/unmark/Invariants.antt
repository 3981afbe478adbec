use Rattle.std.proofs.Common.{◌≡◌, ◌≤◌, ◌<◌, ℕ, length}
use Rattle.std.specs.Prelude.{slice_index}
use Rattle.conflict_analysis.specs.code.Trails.{role_at, IsUsed}
use Rattle.conflict_analysis.proofs.tables.unmark.Given as goal

abbrev pub invariant-loop-k : goal.invariant-loop-k
invariant-loop-k l = record {
  left : (j : ℕ) → IsUsed (role_at l.roles.items j) → (i : ℕ) × (l.k-index ≤ i) × (i < length l.passed) × (slice_index l.passed i ≡ j);
}
