use Rattle.std.proofs.Common.{◌≡◌, ◌-◌, ℕ, length}
use Rattle.conflict_analysis.specs.declared.entry.Role.TheVariants.{Unused}
use Rattle.conflict_analysis.specs.code.Trails.{role_at}
use Rattle.conflict_analysis.proofs.tables.Unmarked.into_roles.Given as goal

abbrev pub invariant-roles : goal.invariant-roles
invariant-roles l = record { clean : (j : ℕ) → role_at l.roles.items j ≡ Unused }

abbrev pub decreases-roles : goal.decreases-roles
decreases-roles l = l.count - length l.roles.items
