use Rattle.std.proofs.Common.{ℕ, ◌<◌}
use Rattle.stn_core.specs.Literal.{Holds, literal_at}
use Rattle.stn_core.proofs.lowering.all_hold.Given as goal

abbrev pub invariant-literals : goal.invariant-literals
invariant-literals l = (k : ℕ) → k < l.literal-index → Holds l.values (literal_at l.literals k)
