use Rattle.std.proofs.Common.{arith, ap, sym, subst, refl, ◌∙◌, ◌≡◌, ◌<◌, List, Option, IfSome, length, map}
use Rattle.idl_linear.specs.Linear.{LinearValue}
use Rattle.idl_cases.specs.Guarded.{CaseValue}
use Rattle.idl_cases.specs.code.Bounded.{AreLinear}
use Rattle.idl_cases.specs.code.CasePlaces.{signed_lists}
use Rattle.idl_cases.specs.code.CaseSums.{added_all, moved, signed_cases, summed_cases, Summed}
use Rattle.idl_cases.proofs.CaseBounds.{bounded_moved, linear_each, over_bounded}
use Rattle.idl_cases.proofs.SumSteps.{split_count, split_many, split_moved}
use Rattle.idl_cases.proofs.summing.Summing.shared.Goals as goal

pub joined-requires-clause-few : goal.joined-requires-clause-few
joined-requires-clause-few c =
    let old : Summed = record { start = c.self.inside.start; choices = signed_lists c.self.inside.choices.items } in
    let x = c.in-Some.first.now in
    let others = c.in-Some.others.now in
    let few : length (summed_cases old) < 4294967296 = subst (λ (s : Summed). length (summed_cases s) < 4294967296) (sym c.self.view_is) c.requires.few in
    let count = split_count old c.self.inside.count c.self.invariant c.self.inside.choices.items others x refl (sym c.deref.ensures.value ∙ c.in-Some.ensures.cases.0) in
    let less : length (added_all (signed_cases x.is_negated x.choices.now) (signed_lists others)) < 4294967296 = omega (arith, few, count) in
    less

pub invariant_of-result : goal.invariant_of-result
invariant_of-result c =
    let old : Summed = record { start = c.self.inside.start; choices = signed_lists c.self.inside.choices.items } in
    let x = c.in-Some.first.now in
    let others = c.in-Some.others.now in
    let choices = c.in-Some-2.choices in
    let same = subst (λ (o : Option (List CaseValue)). IfSome o (λ (cs : List CaseValue). cs ≡ added_all (signed_cases x.is_negated x.choices.now) (signed_lists others))) c.in-Some-2.is c.in_ok-choices.ensures in
    let more = split_many old c.self.inside.count c.self.invariant c.self.inside.choices.items others x refl (sym c.deref.ensures.value ∙ c.in-Some.ensures.cases.0) in
    let long = ap (length {A = CaseValue}) same in
    let many : 1 < length choices = omega (arith, more, long) in
    let each = bounded_moved c.of.result c.bounds.result c.in-Some-of_sum._bounds c.in-Some-of_sum.ensures.1 c.args.by.now choices c.of.ensures.within c.bounds.ensures.each in
    let linear = linear_each c.in-Some-of_sum._bounds (map (moved c.args.by.now) choices) c.in-Some-of_sum.ensures.0 each in
    (many, over_bounded c.bounds.result choices c.bounds.ensures.each, subst (λ (l : LinearValue). AreLinear (map (moved l) choices)) (sym c.in_ok-copy.ensures) linear)

pub returns : goal.returns
returns c =
    let old : Summed = record { start = c.self.inside.start; choices = signed_lists c.self.inside.choices.items } in
    let x = c.in-Some.first.now in
    let others = c.in-Some.others.now in
    let choices = c.in-Some-2.choices in
    let by = c.args.by.now in
    let same = subst (λ (o : Option (List CaseValue)). IfSome o (λ (cs : List CaseValue). cs ≡ added_all (signed_cases x.is_negated x.choices.now) (signed_lists others))) c.in-Some-2.is c.in_ok-choices.ensures in
    let start : by ≡ old.start.linear = c.requires.by ∙ sym (ap (λ (s : Summed). s.start.linear) c.self.view_is) in
    let made : map (moved by) choices ≡ summed_cases c.args.self.now =
    ap (λ (cs : List CaseValue). map (moved by) cs) same
    ∙ sym (split_moved old c.self.inside.count c.self.invariant c.self.inside.choices.items others x refl (sym c.deref.ensures.value ∙ c.in-Some.ensures.cases.0) by start)
    ∙ ap summed_cases c.self.view_is in
    let each = bounded_moved c.of.result c.bounds.result c.in-Some-of_sum._bounds c.in-Some-of_sum.ensures.1 by choices c.of.ensures.within c.bounds.ensures.each in
    let linear = linear_each c.in-Some-of_sum._bounds (map (moved by) choices) c.in-Some-of_sum.ensures.0 each in
    (ap (λ (l : LinearValue). map (moved l) choices) c.in_ok-copy.ensures ∙ made, subst (λ (cs : List CaseValue). AreLinear cs) made linear)
