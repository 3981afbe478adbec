use Rattle.std.proofs.Common.{◌≡◌, ◌≤◌, ◌<◌, ℕ, length, true}
use Rattle.std.specs.Prelude.{slice_index}
use Rattle.conflict_analysis.specs.code.Leaves.{at_leaves}
use Rattle.conflict_analysis.proofs.tables.clear.Given as goal

abbrev pub invariant-loop-k : goal.invariant-loop-k
invariant-loop-k l = record {
  left : (j : ℕ) → at_leaves l.leaves.items j ≡ true → (i : ℕ) × (l.k-index ≤ i) × (i < length l.passed) × (slice_index l.passed i ≡ j);
}
