use Rattle.std.proofs.Common.{arith, ap, subst, ◌∙◌, ◌≡◌, List, Option, IfSome}
use Rattle.idl_cases.specs.Guarded.{CaseValue}
use Rattle.idl_cases.specs.code.CaseSums.{added_each, signed_cases}
use Rattle.idl_cases.proofs.SumSteps.{shared_few, shared_more}
use Rattle.idl_cases.proofs.summing.joined.Goals as goal

pub sum-requires : goal.sum-requires
sum-requires c =
    shared_few c.args.others.now (signed_cases c.args.first.is_negated c.args.first.choices.now) c.loop-other.other-index c.other-item.result (omega (arith, c.loop-other-test.true)) c.other-item.is c.loop-other.choices c.loop-other.invariant.same
    18446744073709551616 c.in_ok-more.more c.requires.each c.in_ok-more.ensures (omega (arith, c.requires.few))

pub loop-other-preserved : goal.loop-other-preserved
loop-other-preserved c =
    let made = subst (λ (o : Option (List CaseValue)). IfSome o (λ (cs : List CaseValue). cs ≡ added_each c.loop-other.choices c.in_ok-more.more)) c.in-Some.is c.in_ok-sum.ensures in
    let more = shared_more c.args.others.now (signed_cases c.args.first.is_negated c.args.first.choices.now) c.loop-other.other-index c.other-item.result (omega (arith, c.loop-other-test.true)) c.other-item.is c.loop-other.choices c.loop-other.invariant.same in
    record { same = made ∙ ap (added_each c.loop-other.choices) c.in_ok-more.ensures ∙ more }
