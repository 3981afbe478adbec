use Rattle.std.proofs.Common.{◌≡◌, ◌-◌, ℕ, length, false}
use Rattle.conflict_analysis.specs.code.Leaves.{at_leaves}
use Rattle.conflict_analysis.proofs.tables.NoLeaves.into_leaves.Given as goal

abbrev pub invariant-leaves : goal.invariant-leaves
invariant-leaves l = record { clean : (k : ℕ) → at_leaves l.leaves.items k ≡ false }

abbrev pub decreases-leaves : goal.decreases-leaves
decreases-leaves l = l.count - length l.leaves.items
