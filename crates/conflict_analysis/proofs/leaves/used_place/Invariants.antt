use Rattle.std.proofs.Common.{◌≡◌, ℕ, ◌<◌}
use Rattle.conflict_analysis.specs.code.Trails.{on_trail, role_at, IsUsed}
use Rattle.conflict_analysis.proofs.leaves.used_place.Given as goal

abbrev pub invariant-loop-k : goal.invariant-loop-k
invariant-loop-k g l = record { none : (j : ℕ) → j < l.k → IsUsed (role_at l.roles j) → on_trail l.graph.trail j ≡ l.literal → ⊥ }
