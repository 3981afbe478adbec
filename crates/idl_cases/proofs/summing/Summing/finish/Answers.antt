use Rattle.std.proofs.Common.{subst, ◌≡◌, List, Option, IfSome}
use Rattle.idl_cases.specs.Guarded.{CaseValue}
use Rattle.idl_cases.specs.code.Bounded.{AreLinear}
use Rattle.idl_cases.specs.code.CaseSums.{summed_cases}
use Rattle.idl_cases.proofs.SumSteps.{linear_limited}
use Rattle.idl_cases.proofs.summing.Summing.finish.Goals as goal

pub returns-in-Some-2-clause-limited : goal.returns-in-Some-2-clause-limited
returns-in-Some-2-clause-limited c =
    let whole = summed_cases c.args.self.now in
    let made = subst (λ (o : Option (List CaseValue)). IfSome o (λ (cs : List CaseValue). (cs ≡ whole) × AreLinear whole)) c.in-Some-2.is c.in_ok-cases-in-Some.ensures in
    linear_limited whole made.1
