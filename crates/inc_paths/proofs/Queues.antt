-- What a heap's top says of falls.
use Rattle.std.proofs.Common.{arith, refl, subst, ◌≡◌, ℕ, ◌≤◌, List, [], ◌∷◌, Bool, true, false, cond, nat_lt, Option, Some, None, IfSome}
use Rattle.std.specs.declared.cmp.Ordering.{Ordering}
use Rattle.std.specs.Ordering.{is_lt, ordering_then}
use Rattle.std.specs.declared.cmp.Ordering.TheVariants.{Less, Equal, Greater}
use Rattle.std.specs.BinaryHeap.{IsHeap, IsUpperBound, PopsGreatest}
use Rattle.std.proofs.lemmas.Bool.Decides.{nat_tests}
use Rattle.inc_paths.specs.code.Trails.{queue_order, FallsFurthest}

by_test : (t u : Bool) (o : Ordering) → is_lt (ordering_then (cond t Less (cond u Equal Greater)) o) ≡ false → t ≡ false
by_test true u o h = h
by_test false u o h = refl

falls_less : (a b : ℕ × ℕ) → is_lt (queue_order a b) ≡ false → b.0 ≤ a.0
falls_less a b h = let t : nat_lt a.0 b.0 ≡ false = by_test _ _ _ h in grind (arith, nat_tests)

pub furthest_of-upper : (item : ℕ × ℕ) (others : List (ℕ × ℕ)) → IsUpperBound queue_order item others → FallsFurthest item others
furthest_of-upper item [] h = tt
furthest_of-upper item (other ∷ others) h = (falls_less item other h.0, furthest_of-upper item others h.1)

pub popped : (result : Option (ℕ × ℕ)) (items rest queue : List (ℕ × ℕ)) → IsHeap queue_order items
    → IfSome result (λ x. PopsGreatest queue_order items x rest) → items ≡ queue → IfSome result (λ x. FallsFurthest x queue)
popped None items rest queue heap h e = tt
popped (Some x) items rest queue heap h e = subst (FallsFurthest x) e (furthest_of-upper x items (h heap).1)
