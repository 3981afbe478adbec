use Rattle.std.proofs.Common.{ap, sym, subst, ◌∙◌, ℕ, List, Bool, ◌++◌, map}
use Rattle.idl_linear.specs.Linear.{LinearValue, negative_of, sum_of}
use Rattle.idl_linear.specs.code.Bounded.{IsOver}
use Rattle.idl_linear.proofs.SumLaws.{over_linear, over_sum}
use Rattle.idl_cases.specs.Guarded.{CaseValue}
use Rattle.idl_cases.specs.code.CaseSums.{pair_sum, signed_linear}
use Rattle.idl_cases.proofs.Gathering.{seen, points_plus, points_minus, sum_plus, sum_minus}
use Rattle.idl_cases.proofs.case_parts.CaseParts.push.Goals as goal

pub returns-in_err-push-clause-over : goal.returns-in_err-push-clause-over
returns-in_err-push-clause-over c = subst (λ (v : CaseValue). IsOver v.linear) c.self.view_is (over_sum _ c.self.invariant)

pub returns-in_err-push-2-clause-over : goal.returns-in_err-push-2-clause-over
returns-in_err-push-2-clause-over c = subst (λ (v : CaseValue). IsOver v.linear) c.self.view_is (over_sum _ c.self.invariant)

pub returns-in_ok-push-clause-over : goal.returns-in_ok-push-clause-over
returns-in_ok-push-clause-over c = subst (λ (v : CaseValue). IsOver v.linear) c.self.view_is (over_sum _ c.self.invariant)

pub returns-in_ok-push-2-clause-over : goal.returns-in_ok-push-2-clause-over
returns-in_ok-push-2-clause-over c = subst (λ (v : CaseValue). IsOver v.linear) c.self.view_is (over_sum _ c.self.invariant)

abbrev shown : List ℕ → LinearValue → CaseValue
shown guards l = record { guards = guards; linear = l }

pub invariant_of-self : goal.invariant_of-self
invariant_of-self c =
    points_minus c.self.inside.plus.items c.self.inside.minus.items c.push.new.self.items c.args.linear c.self.invariant (over_linear c.args.linear.now c.constant.ensures.linear) c.in_ok-push.ensures.items

pub invariant_of-self-in-Continue-branch-2 : goal.invariant_of-self-in-Continue-branch-2
invariant_of-self-in-Continue-branch-2 c =
    points_plus c.self.inside.plus.items c.self.inside.minus.items c.push-else-is_negated.new.self.items c.args.linear c.self.invariant (over_linear c.args.linear.now c.constant.ensures.linear) c.in_ok-push-2.ensures.items

pub returns-in_ok-push-clause-pushed : goal.returns-in_ok-push-clause-pushed
returns-in_ok-push-clause-pushed c =
    let l = c.args.linear.now in
    let old = sum_of (seen c.self.inside.plus.items ++ map negative_of (seen c.self.inside.minus.items)) in
    ap (shown c.self.inside.guards.items) (sum_minus c.self.inside.plus.items c.self.inside.minus.items c.push.new.self.items c.args.linear c.self.invariant (over_linear l c.constant.ensures.linear) c.in_ok-push.ensures.items
    ∙ ap (λ (b : Bool). pair_sum old (signed_linear b l)) (sym c.if-is_negated.true))
    ∙ ap (λ (v : CaseValue). shown v.guards (pair_sum v.linear (signed_linear c.args.is_negated l))) c.self.view_is

pub returns-in_ok-push-2-clause-pushed : goal.returns-in_ok-push-2-clause-pushed
returns-in_ok-push-2-clause-pushed c =
    let l = c.args.linear.now in
    let old = sum_of (seen c.self.inside.plus.items ++ map negative_of (seen c.self.inside.minus.items)) in
    ap (shown c.self.inside.guards.items) (sum_plus c.self.inside.plus.items c.self.inside.minus.items c.push-else-is_negated.new.self.items c.args.linear c.self.invariant (over_linear l c.constant.ensures.linear) c.in_ok-push-2.ensures.items
    ∙ ap (λ (b : Bool). pair_sum old (signed_linear b l)) (sym c.if-is_negated.false))
    ∙ ap (λ (v : CaseValue). shown v.guards (pair_sum v.linear (signed_linear c.args.is_negated l))) c.self.view_is
