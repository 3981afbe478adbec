use Rattle.std.proofs.Common.{subst, List}
use Rattle.idl_cases.specs.Guarded.{CaseValue}
use Rattle.idl_cases.specs.code.Bounded.{AreBounded}
use Rattle.idl_cases.proofs.CaseBounds.{bounded_negated}
use Rattle.idl_cases.proofs.choices.Choices.bounds.Goals as goal

pub returns-clause-each : goal.returns-clause-each
returns-clause-each c =
    subst (λ (cs : List CaseValue). AreBounded c.bounds.result cs) c.self.view_is
    (bounded_negated c.bounds.result c.self.inside.is_negated c.self.inside.tree.value (subst (λ (cs : List CaseValue). AreBounded c.bounds.result cs) c.deref.ensures c.bounds.ensures.each))
