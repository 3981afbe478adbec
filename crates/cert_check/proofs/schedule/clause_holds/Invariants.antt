use Rattle.std.proofs.Common.{take, All}
use Rattle.stn_core.specs.declared.literal.Literal.{Literal}
use Rattle.stn_core.specs.Literal.{Holds}
use Rattle.cert_check.proofs.schedule.clause_holds.Given as goal

abbrev pub invariant-loop-literal : goal.invariant-loop-literal
invariant-loop-literal l = All (λ (m : Literal). ¬ Holds l.values m) (take l.literal-index l.clause)
