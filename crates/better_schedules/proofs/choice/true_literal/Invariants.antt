use Rattle.std.proofs.Common.{ℕ, ◌<◌}
use Rattle.stn_core.specs.Literal.{literal_at, Holds}
use Rattle.better_schedules.proofs.choice.true_literal.Given as goal

abbrev pub invariant-loop-literal : goal.invariant-loop-literal
invariant-loop-literal l = record { past : (k : ℕ) → k < l.literal-index → Holds l.values (literal_at l.clause k) → ⊥ }
