use Rattle.std.proofs.Common.{rules, ap, ◌∙◌, arith, ◌≡◌, ◌<◌, ◌+◌, ◌^◌, ◌++◌, List, cond, ℤ, neg_ℤ, to_z, of_z, w64}
use Rattle.std.proofs.lemmas.Int.{ints}
use Rattle.std.proofs.lemmas.Result.{err_from_is_err_and}
use Rattle.std.proofs.lemmas.List.Sorted.{IsNonDecreasingBy-from_sort_by_key}
use Rattle.idl_linear.specs.declared.summand.Summand.{Summand}
use Rattle.idl_linear.specs.Linear.{collected, are_limited}
use Rattle.idl_linear.specs.Forms.{SumValue, with_signed}
use Rattle.idl_linear.specs.code.Steps.{Refuses}
use Rattle.idl_linear.specs.code.Trees.{signed}
use Rattle.idl_linear.proofs.Finishing.{refused_as, constant_is, constant_low, constant_high, number_is, constant_refused, tree_refused, tree_ok, tree_limited, tree_linear}
use Rattle.idl_linear.proofs.Sorting.{each-permuted, rise_from_sorted}
use Rattle.idl_linear.proofs.linear_sum.LinearSum.finish_in_tree.Goals as goal

pub overflow_add-self-inside : goal.overflow_add-self-inside
overflow_add-self-inside c =
    let inside : SumValue = record { summands = c.self.inside.summands.items; constant = c.self.inside.constant; terms = c.self.inside.terms } in
    let few : inside.terms + 1 < 2 ^ 64 = omega (arith, ap (λ (s : SumValue). s.terms) c.self.view_is, c.requires) in
    let stored : to_z w64 (of_z w64 c.constant.result) ≡ c.constant.result = omega (arith, ints) in
    let more : c.signed_constant-more.result ≡ cond c.args.is_negated (neg_ℤ c.constant.result) c.constant.result = c.signed_constant-more.ensures ∙ ap (λ (z : ℤ). cond c.args.is_negated (neg_ℤ z) z) stored in
    let low = constant_low c.args.is_negated c.args.base.now c.constant.result c.signed_constant-more.result c.constant.ensures.linear c.constant.ensures.number more in
    let high = constant_high c.args.is_negated c.args.base.now c.constant.result c.signed_constant-more.result c.constant.ensures.linear c.constant.ensures.number more in
    omega (arith, ints, few, low, high, c.self.invariant.low, c.self.invariant.high)

pub returns-in-None-clause-refused : goal.returns-in-None-clause-refused
returns-in-None-clause-refused c =
    let inside : SumValue = record { summands = c.self.inside.summands.items; constant = c.self.inside.constant; terms = c.self.inside.terms } in
    let few : inside.terms + 1 < 2 ^ 64 = omega (arith, ap (λ (s : SumValue). s.terms) c.self.view_is, c.requires) in
    let stored : to_z w64 (of_z w64 c.constant.result) ≡ c.constant.result = omega (arith, ints) in
    let more : c.signed_constant-more.result ≡ cond c.args.is_negated (neg_ℤ c.constant.result) c.constant.result = c.signed_constant-more.ensures ∙ ap (λ (z : ℤ). cond c.args.is_negated (neg_ℤ z) z) stored in
    let low = constant_low c.args.is_negated c.args.base.now c.constant.result c.signed_constant-more.result c.constant.ensures.linear c.constant.ensures.number more in
    let high = constant_high c.args.is_negated c.args.base.now c.constant.result c.signed_constant-more.result c.constant.ensures.linear c.constant.ensures.number more in
    let total = number_is inside c.signed_constant-more.result c.self.invariant few low high ∙ constant_is c.args.is_negated inside c.args.base.now c.constant.result c.signed_constant-more.result c.constant.ensures.number more in
    rw (← c.self.view_is) (constant_refused (with_signed c.args.is_negated inside c.args.base.now) _ total c.in-None.ensures)

pub put_runs-requires-clause-each : goal.put_runs-requires-clause-each
put_runs-requires-clause-each c = rw c.deref.ensures.value (each-permuted _ _ c.sort_unstable_by_key.ensures.permutation c.self.invariant.each)

pub put_runs-requires-clause-rises : goal.put_runs-requires-clause-rises
put_runs-requires-clause-rises c =
    let each = each-permuted _ _ c.sort_unstable_by_key.ensures.permutation c.self.invariant.each in
    rw c.deref.ensures.value (rise_from_sorted _ each (IsNonDecreasingBy-from_sort_by_key (λ (s : Summand). s.point) _ c.sort_unstable_by_key.ensures.sorted (λ a r q k. search rules)))

pub returns-in_err-tree-clause-refused : goal.returns-in_err-tree-clause-refused
returns-in_err-tree-clause-refused c =
    let inside : SumValue = record { summands = c.self.inside.summands.items; constant = c.self.inside.constant; terms = c.self.inside.terms } in
    let p = err_from_is_err_and c.from_residual-in_err-tree.result c.from_residual-in_err-tree.ensures.1 in
    let refused : Refuses c.in_err-tree.field-0.0 (are_limited (collected (signed c.in_ok-base.base.is_negated c.sort_unstable_by_key.new.self.items ++ c.in_ok-base.base.tree.value.summands))) =
    rw (← c.deref.ensures.value) c.in_err-tree.ensures.refused in
    rw (← c.self.view_is) (refused_as _ p.0 c.in_err-tree.field-0.0 _ p.1 p.2
    (tree_refused c.args.is_negated c.in_ok-base.base.is_negated inside c.args.base.now c.sort_unstable_by_key.new.self.items c.in_ok-base.base.tree.value.summands c.self.invariant.each c.sort_unstable_by_key.ensures.permutation c.in_ok-base.ensures.same c.in_ok-base.ensures.rest c.in_err-tree.field-0.0 refused))

pub from_parts-requires : goal.from_parts-requires
from_parts-requires c =
    let inside : SumValue = record { summands = c.self.inside.summands.items; constant = c.self.inside.constant; terms = c.self.inside.terms } in
    let few : inside.terms + 1 < 2 ^ 64 = omega (arith, ap (λ (s : SumValue). s.terms) c.self.view_is, c.requires) in
    let stored : to_z w64 (of_z w64 c.constant.result) ≡ c.constant.result = omega (arith, ints) in
    let more : c.signed_constant-more.result ≡ cond c.args.is_negated (neg_ℤ c.constant.result) c.constant.result = c.signed_constant-more.ensures ∙ ap (λ (z : ℤ). cond c.args.is_negated (neg_ℤ z) z) stored in
    let low = constant_low c.args.is_negated c.args.base.now c.constant.result c.signed_constant-more.result c.constant.ensures.linear c.constant.ensures.number more in
    let high = constant_high c.args.is_negated c.args.base.now c.constant.result c.signed_constant-more.result c.constant.ensures.linear c.constant.ensures.number more in
    let total = number_is inside c.signed_constant-more.result c.self.invariant few low high ∙ constant_is c.args.is_negated inside c.args.base.now c.constant.result c.signed_constant-more.result c.constant.ensures.number more in
    let list : c.in_ok-tree.tree.value.summands ≡ collected (signed c.in_ok-base.base.is_negated c.sort_unstable_by_key.new.self.items ++ c.in_ok-base.base.tree.value.summands) =
    c.in_ok-tree.ensures.ok ∙ ap (λ (xs : List Summand). collected (signed c.in_ok-base.base.is_negated xs ++ c.in_ok-base.base.tree.value.summands)) c.deref.ensures.value in
    tree_linear c.args.is_negated c.in_ok-base.base.is_negated inside c.args.base.now c.sort_unstable_by_key.new.self.items c.in_ok-base.base.tree.value.summands c.self.invariant.each c.sort_unstable_by_key.ensures.permutation c.in_ok-base.ensures.same c.in_ok-base.ensures.rest c.in_ok-tree.tree.value.summands list c.in_ok-tree.ensures.rest _ c.in-Some.constant total c.in-Some.ensures

pub returns-clause-ok : goal.returns-clause-ok
returns-clause-ok c =
    let inside : SumValue = record { summands = c.self.inside.summands.items; constant = c.self.inside.constant; terms = c.self.inside.terms } in
    let few : inside.terms + 1 < 2 ^ 64 = omega (arith, ap (λ (s : SumValue). s.terms) c.self.view_is, c.requires) in
    let stored : to_z w64 (of_z w64 c.constant.result) ≡ c.constant.result = omega (arith, ints) in
    let more : c.signed_constant-more.result ≡ cond c.args.is_negated (neg_ℤ c.constant.result) c.constant.result = c.signed_constant-more.ensures ∙ ap (λ (z : ℤ). cond c.args.is_negated (neg_ℤ z) z) stored in
    let low = constant_low c.args.is_negated c.args.base.now c.constant.result c.signed_constant-more.result c.constant.ensures.linear c.constant.ensures.number more in
    let high = constant_high c.args.is_negated c.args.base.now c.constant.result c.signed_constant-more.result c.constant.ensures.linear c.constant.ensures.number more in
    let total = number_is inside c.signed_constant-more.result c.self.invariant few low high ∙ constant_is c.args.is_negated inside c.args.base.now c.constant.result c.signed_constant-more.result c.constant.ensures.number more in
    let list : c.in_ok-tree.tree.value.summands ≡ collected (signed c.in_ok-base.base.is_negated c.sort_unstable_by_key.new.self.items ++ c.in_ok-base.base.tree.value.summands) =
    c.in_ok-tree.ensures.ok ∙ ap (λ (xs : List Summand). collected (signed c.in_ok-base.base.is_negated xs ++ c.in_ok-base.base.tree.value.summands)) c.deref.ensures.value in
    rw (← c.self.view_is) (c.from_parts.ensures ∙ tree_ok c.args.is_negated c.in_ok-base.base.is_negated inside c.args.base.now c.sort_unstable_by_key.new.self.items c.in_ok-base.base.tree.value.summands c.self.invariant.each c.sort_unstable_by_key.ensures.permutation c.in_ok-base.ensures.same c.in_ok-base.ensures.rest c.in_ok-tree.tree.value.summands list c.in_ok-tree.ensures.rest _ c.in-Some.constant total c.in-Some.ensures)

pub returns-clause-limited : goal.returns-clause-limited
returns-clause-limited c =
    let inside : SumValue = record { summands = c.self.inside.summands.items; constant = c.self.inside.constant; terms = c.self.inside.terms } in
    let few : inside.terms + 1 < 2 ^ 64 = omega (arith, ap (λ (s : SumValue). s.terms) c.self.view_is, c.requires) in
    let stored : to_z w64 (of_z w64 c.constant.result) ≡ c.constant.result = omega (arith, ints) in
    let more : c.signed_constant-more.result ≡ cond c.args.is_negated (neg_ℤ c.constant.result) c.constant.result = c.signed_constant-more.ensures ∙ ap (λ (z : ℤ). cond c.args.is_negated (neg_ℤ z) z) stored in
    let low = constant_low c.args.is_negated c.args.base.now c.constant.result c.signed_constant-more.result c.constant.ensures.linear c.constant.ensures.number more in
    let high = constant_high c.args.is_negated c.args.base.now c.constant.result c.signed_constant-more.result c.constant.ensures.linear c.constant.ensures.number more in
    let total = number_is inside c.signed_constant-more.result c.self.invariant few low high ∙ constant_is c.args.is_negated inside c.args.base.now c.constant.result c.signed_constant-more.result c.constant.ensures.number more in
    let list : c.in_ok-tree.tree.value.summands ≡ collected (signed c.in_ok-base.base.is_negated c.sort_unstable_by_key.new.self.items ++ c.in_ok-base.base.tree.value.summands) =
    c.in_ok-tree.ensures.ok ∙ ap (λ (xs : List Summand). collected (signed c.in_ok-base.base.is_negated xs ++ c.in_ok-base.base.tree.value.summands)) c.deref.ensures.value in
    rw (← c.self.view_is) (tree_limited c.args.is_negated c.in_ok-base.base.is_negated inside c.args.base.now c.sort_unstable_by_key.new.self.items c.in_ok-base.base.tree.value.summands c.self.invariant.each c.sort_unstable_by_key.ensures.permutation c.in_ok-base.ensures.same c.in_ok-base.ensures.rest c.in_ok-tree.tree.value.summands list c.in_ok-tree.ensures.rest _ c.in-Some.constant total c.in-Some.ensures)

pub returns-clause-linear : goal.returns-clause-linear
returns-clause-linear c = c.constant.ensures.linear
