use Rattle.std.proofs.Common.{arith, rules, ap, length}
use Rattle.std.proofs.lemmas.List.{length-map}
use Rattle.std.proofs.lemmas.List.Sorted.{IsNonDecreasingBy-from_sort_by_key}
use Rattle.crossbeam_deque.specs.Handles.{stealer_deque}
use Rattle.cube_pool.specs.Hands.{Doings}
use Rattle.cube_pool.proofs.Endings.{all_histories, on_ok}
use Rattle.cube_pool.proofs.Orders.{sorted_hands}
use Rattle.cube_pool.proofs.pool.Pool.close.Goals as goal

pub join_all-requires-clause-few : goal.join_all-requires-clause-few
join_all-requires-clause-few c = omega (arith, c.self.invariant.few, length-map c.self.inside.mouths.items stealer_deque, ap length c.self.view_is)

pub part-requires-clause-hands : goal.part-requires-clause-hands
part-requires-clause-hands c = sorted_hands _ _ _ c.requires c.sort_unstable_by_key.ensures.permutation
    (IsNonDecreasingBy-from_sort_by_key (λ (d : Doings). d.number) _ c.sort_unstable_by_key.ensures.sorted (λ a r q k. search rules))

pub returns-clause-histories : goal.returns-clause-histories
returns-clause-histories c =
    let permuted = c.sort_unstable_by_key.ensures.permutation in
    let order = sorted_hands _ _ _ c.requires permuted (IsNonDecreasingBy-from_sort_by_key (λ (d : Doings). d.number) _ c.sort_unstable_by_key.ensures.sorted (λ a r q k. search rules)) in
    on_ok _ _ c.drain_all.result (all_histories _ _ _ _ _ _ permuted order c.in_ok-part.ensures c.join_all.ensures) c.drain_all.ensures.histories
