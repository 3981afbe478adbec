use Rattle.std.proofs.Common.{rules, refl, ap, sym, subst, ◌∙◌, arith, ◌≡◌, ℕ, ℤ, pos, neg_ℤ, ◌-ℤ◌, List, Option, Some, None, to_z, of_z}
use Rattle.std.specs.Int.{w128}
use Rattle.std.proofs.lemmas.Int.{ints}
use Rattle.std.proofs.lemmas.List.Sorted.{IsNonDecreasingBy-from_sort_by_key}
use Rattle.idl_linear.specs.declared.summand.Summand.{Summand}
use Rattle.idl_linear.specs.Differences.{difference_by, ends_of}
use Rattle.idl_linear.specs.Linear.{collected}
use Rattle.idl_linear.proofs.Sorting.{each-permuted, collected-permuted, rise_from_sorted}
use Rattle.idl_linear.proofs.linear_sum.LinearSum.difference.Goals as goal

pub ends_of_runs-requires-clause-rises : goal.ends_of_runs-requires-clause-rises
ends_of_runs-requires-clause-rises c =
    let each = each-permuted _ _ c.in_ok-sort_by_key.ensures.permutation c.self.invariant.each in
    rw c.deref.ensures.value (rise_from_sorted _ each (IsNonDecreasingBy-from_sort_by_key (λ (s : Summand). s.point) _ c.in_ok-sort_by_key.ensures.sorted (λ a r q k. search rules)))

pub returns-in-Some : goal.returns-in-Some
returns-in-Some c =
    let same : collected c.sort_by_key.new.self.items ≡ collected c.self.inside.summands.items = collected-permuted _ _ c.in_ok-sort_by_key.ensures.permutation c.self.invariant.each in
    let ends : Some (c.in-Some.ends.x, c.in-Some.ends.y) ≡ ends_of (collected c.self.inside.summands.items) = c.in-Some.ensures ∙ ap (λ (l : List Summand). ends_of (collected l)) c.deref.ensures.value ∙ ap ends_of same in
    let low = c.self.invariant.low in
    let high = c.self.invariant.high in
    let number : neg_ℤ c.self.inside.constant ≡ to_z w128 (of_z w128 (pos 0 -ℤ to_z w128 (of_z w128 c.self.inside.constant))) = omega (arith, ints, low, high) in
    rw (← c.self.view_is) (c.difference_by.ensures c.self.inside.constant number ∙ ap (λ (o : Option (ℕ × ℕ)). difference_by o c.self.inside.constant) ends)

pub returns : goal.returns
returns c =
    let same : collected c.sort_by_key.new.self.items ≡ collected c.self.inside.summands.items = collected-permuted _ _ c.in_ok-sort_by_key.ensures.permutation c.self.invariant.each in
    let ends : None ≡ ends_of (collected c.self.inside.summands.items) = c.in-None.ensures ∙ ap (λ (l : List Summand). ends_of (collected l)) c.deref.ensures.value ∙ ap ends_of same in
    rw (← c.self.view_is) (ap (λ (o : Option (ℕ × ℕ)). difference_by o c.self.inside.constant) ends)
