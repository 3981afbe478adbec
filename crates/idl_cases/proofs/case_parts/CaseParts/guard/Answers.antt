use Rattle.std.proofs.Common.{subst}
use Rattle.idl_linear.specs.code.Bounded.{IsOver}
use Rattle.idl_linear.proofs.SumLaws.{over_sum}
use Rattle.idl_cases.specs.Guarded.{CaseValue}
use Rattle.idl_cases.proofs.case_parts.CaseParts.guard.Goals as goal

pub returns-in_err-push-clause-over : goal.returns-in_err-push-clause-over
returns-in_err-push-clause-over c = subst (λ (v : CaseValue). IsOver v.linear) c.self.view_is (over_sum _ c.self.invariant)

pub returns-clause-over : goal.returns-clause-over
returns-clause-over c = subst (λ (v : CaseValue). IsOver v.linear) c.self.view_is (over_sum _ c.self.invariant)
