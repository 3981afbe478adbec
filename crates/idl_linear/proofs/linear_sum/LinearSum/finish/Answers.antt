use Rattle.std.proofs.Common.{rules, ◌∙◌, arith, ◌≡◌, to_z, of_z}
use Rattle.std.specs.Int.{w128}
use Rattle.std.proofs.lemmas.Int.{ints}
use Rattle.std.proofs.lemmas.Result.{err_from_is_err_and}
use Rattle.std.proofs.lemmas.List.Sorted.{IsNonDecreasingBy-from_sort_by_key}
use Rattle.idl_linear.specs.declared.summand.Summand.{Summand}
use Rattle.idl_linear.specs.Linear.{collected, are_limited}
use Rattle.idl_linear.specs.code.Steps.{Refuses}
use Rattle.idl_linear.proofs.Finishing.{refused_as, refused_by_coefficients}
use Rattle.idl_linear.proofs.Merging.{rest_from_linear}
use Rattle.idl_linear.proofs.Sorting.{each-permuted, collected-permuted, rise_from_sorted}
use Rattle.idl_linear.proofs.Summing.{finish_ok, finish_limited, finish_linear}
use Rattle.idl_linear.proofs.linear_sum.LinearSum.finish.Goals as goal

pub combine-requires-clause-each : goal.combine-requires-clause-each
combine-requires-clause-each c = each-permuted _ _ c.sort_unstable_by_key.ensures.permutation c.self.invariant.each

pub combine-requires-clause-rises : goal.combine-requires-clause-rises
combine-requires-clause-rises c =
    let each = each-permuted _ _ c.sort_unstable_by_key.ensures.permutation c.self.invariant.each in
    rise_from_sorted _ each (IsNonDecreasingBy-from_sort_by_key (λ (s : Summand). s.point) _ c.sort_unstable_by_key.ensures.sorted (λ a r q k. search rules))

pub returns-in_err-combine-clause-refused : goal.returns-in_err-combine-clause-refused
returns-in_err-combine-clause-refused c =
    let p = err_from_is_err_and c.from_residual.result c.from_residual.ensures.1 in
    let same : collected c.sort_unstable_by_key.new.self.items ≡ collected c.self.inside.summands.items = collected-permuted _ _ c.sort_unstable_by_key.ensures.permutation c.self.invariant.each in
    let refused : Refuses c.in_err-combine.field-0.0 (are_limited (collected c.self.inside.summands.items)) = rw (← same) c.in_err-combine.ensures.refused in
    rw (← c.self.view_is) (refused_as _ p.0 c.in_err-combine.field-0.0 _ p.1 p.2 (refused_by_coefficients c.in_err-combine.field-0.0 (collected c.self.inside.summands.items) c.self.inside.constant refused))

pub new-requires : goal.new-requires
new-requires c =
    let number : to_z w128 (of_z w128 c.self.inside.constant) ≡ c.self.inside.constant = omega (arith, ints) in
    rest_from_linear _ (finish_linear _ _ c.self.inside.constant c.sort_unstable_by_key.ensures.permutation c.self.invariant.each c.in_ok-combine.ensures.limited _ c.in_ok-combine.ensures.collected _ (rw number at c.in-Some.ensures))

pub from_parts-requires : goal.from_parts-requires
from_parts-requires c =
    let number : to_z w128 (of_z w128 c.self.inside.constant) ≡ c.self.inside.constant = omega (arith, ints) in
    finish_linear _ _ c.self.inside.constant c.sort_unstable_by_key.ensures.permutation c.self.invariant.each c.in_ok-combine.ensures.limited _ (c.in_ok-held.ensures ∙ c.in_ok-combine.ensures.collected) _ (rw number at c.in-Some.ensures)

pub returns-clause-ok : goal.returns-clause-ok
returns-clause-ok c =
    let number : to_z w128 (of_z w128 c.self.inside.constant) ≡ c.self.inside.constant = omega (arith, ints) in
    rw (← c.self.view_is) (c.from_parts.ensures
    ∙ finish_ok _ _ c.self.inside.constant c.sort_unstable_by_key.ensures.permutation c.self.invariant.each c.in_ok-combine.ensures.limited _ (c.in_ok-held.ensures ∙ c.in_ok-combine.ensures.collected) _ (rw number at c.in-Some.ensures))

pub returns-clause-limited : goal.returns-clause-limited
returns-clause-limited c =
    let number : to_z w128 (of_z w128 c.self.inside.constant) ≡ c.self.inside.constant = omega (arith, ints) in
    rw (← c.self.view_is) (finish_limited _ _ c.self.inside.constant c.sort_unstable_by_key.ensures.permutation c.self.invariant.each
    c.in_ok-combine.ensures.limited _ c.in_ok-combine.ensures.collected _ (rw number at c.in-Some.ensures))
