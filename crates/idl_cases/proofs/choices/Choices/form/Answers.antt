use Rattle.std.proofs.Common.{subst, List}
use Rattle.idl_cases.specs.Guarded.{CaseValue}
use Rattle.idl_cases.specs.code.Bounded.{AreLinear}
use Rattle.idl_cases.proofs.CaseBounds.{linear_signed}
use Rattle.idl_cases.proofs.choices.Choices.form.Goals as goal

pub returns-clause-linear : goal.returns-clause-linear
returns-clause-linear c =
    subst (λ (cs : List CaseValue). AreLinear cs) c.self.view_is
    (linear_signed c.self.inside.is_negated c.self.inside.tree.value (subst (λ (cs : List CaseValue). AreLinear cs) c.deref.ensures c.form.ensures.linear))
