use Rattle.std.proofs.Common.{sym, subst, List}
use Rattle.idl_cases.specs.Guarded.{CaseValue}
use Rattle.idl_cases.specs.code.Bounded.{AreBounded}
use Rattle.idl_cases.proofs.CaseBounds.{bounded_moved, bounded_each}
use Rattle.idl_cases.proofs.cases.Cases.bounds.Goals as goal

pub returns-in-Some-clause-each : goal.returns-in-Some-clause-each
returns-in-Some-clause-each c =
    subst (λ (cs : List CaseValue). AreBounded c.in-Some.bounds cs) (sym c.in-Moved.ensures.0)
    (bounded_moved c.of-in-Moved.result c.bounds-in-Moved.result c.in-Some.bounds c.in-Some.ensures.1 c.in-Moved.by.now c.in-Moved.choices.now c.of-in-Moved.ensures.within c.bounds-in-Moved.ensures.each)

pub returns-in-None-clause-each : goal.returns-in-None-clause-each
returns-in-None-clause-each c =
    bounded_each c.limits.result c.args.self.now c.limits.ensures.constant c.limits.ensures.coefficient c.in-Moved.ensures.3
