-- The hands that a pool hands out, and those that it takes back.
use Rattle.std.proofs.Common.{arith, ◌≡◌, ℕ, zero, suc, ◌<◌, List, [], ◌∷◌, ◌++◌, length, sym, ap, ◌∙◌, subst}
use Rattle.std.proofs.Math.ListN.{get_or}
use Rattle.std.proofs.lemmas.Option.{get_or_from_slice_get}
use Rattle.cube_pool.specs.Hands.{AreHandsOf, AreNewcomers, Deque, Doings, HasFetched, HasPushed, newcomer, times}
use Rattle.cube_pool.proofs.Lists.{first_of, last_of, length_pushed}
use Rattle.cube_pool.proofs.Orders.{times_more, is_one, is_none}
use Rattle.worker_tests.specs.Placed.{IsHandOf, IsSameHand}

-- two hands were popped, the last one first
module _ (pool : List Deque) (all rest last : List Doings) (first second : Doings) (new : AreNewcomers 2 pool all) (e : all ≡ rest ++ second ∷ []) (f : rest ≡ last ++ first ∷ []) where
  abbrev IsNew : ℕ → Doings → Type 0
  IsNew k d = d ≡ newcomer pool k

  each : (k : ℕ) (d : Doings) → k < length all → IsNew k (get_or all k d)
  each k d l = get_or_from_slice_get all k (newcomer pool k) d (new.2 k (omega (arith, l, new.1)))

  pub second_is : IsHandOf pool 1 second
  second_is =
      let one : length rest ≡ 1 = (let n = length_pushed all rest second e in omega (arith, n, new.1)) in
      let is : second ≡ newcomer pool 1 = last_of IsNew all rest second e each ∙ ap (newcomer pool) one in
      (ap (λ (h : Doings). h.pool) is, ap (λ (h : Doings). h.number) is)

  pub first_is : IsHandOf pool 0 first
  first_is =
      let none : length last ≡ 0 = (let n = length_pushed all rest second e in let m = length_pushed rest last first f in omega (arith, n, m, new.1)) in
      let is : first ≡ newcomer pool 0 = last_of IsNew rest last first f (first_of IsNew all rest second e each) ∙ ap (newcomer pool) none in
      (ap (λ (h : Doings). h.pool) is, ap (λ (h : Doings). h.number) is)

-- both hands, by their numbers
both_at : (pool : List Deque) (first second : Doings) → IsHandOf pool 0 first → IsHandOf pool 1 second → (k : ℕ) (d : Doings) → k < 2 → IsHandOf pool k (get_or (first ∷ second ∷ []) k d)
both_at pool first second a b zero d l = a
both_at pool first second a b (suc zero) d l = b
both_at pool first second a b (suc (suc k)) d l = absurd (omega arith)

-- each number once
once : (pool : List Deque) (first second : Doings) → IsHandOf pool 0 first → IsHandOf pool 1 second → (n : ℕ) → n < 2 → times n (first ∷ second ∷ []) ≡ 1
once pool first second a b zero l = omega (arith, times_more 0 first (second ∷ []), times_more 0 second [], is_one 0 first a.1, is_none 0 second (λ e. absurd (omega (arith, e, b.1))))
once pool first second a b (suc zero) l = omega (arith, times_more 1 first (second ∷ []), times_more 1 second [], is_one 1 second b.1, is_none 1 first (λ e. absurd (omega (arith, e, a.1))))
once pool first second a b (suc (suc n)) l = absurd (omega (arith, l))

pub are_both : (pool : List Deque) (hands : List Doings) (first second : Doings) → hands ≡ first ∷ second ∷ [] → length pool ≡ 2 → IsHandOf pool 0 first → IsHandOf pool 1 second → AreHandsOf pool hands
are_both pool hands first second e two a b =
    subst (λ (hs : List Doings). AreHandsOf pool hs) (sym e) (sym two, (λ k d l. (both_at pool first second a b k d l).0), (λ n l. once pool first second a b n (omega (arith, l, two))))

pub same_pushed : (g h : Doings) (id : ℕ) → HasPushed g id h → IsSameHand g h
same_pushed g h id f = (ap (λ (d : Doings). d.pool) f.3, ap (λ (d : Doings). d.number) f.3)

pub same_fetched : (g h : Doings) (k id : ℕ) → HasFetched g k id h → IsSameHand g h
same_fetched g h k id f = (ap (λ (d : Doings). d.pool) f.3, ap (λ (d : Doings). d.number) f.3)
