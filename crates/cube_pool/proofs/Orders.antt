-- Hands that were sorted by their numbers.
use Rattle.std.proofs.Common.{arith, ◌≡◌, ◌≢◌, ℕ, zero, suc, ◌<◌, ◌≤◌, ◌+◌, eq-eqb, ne_eqb, Bool, cond, inl, inr, List, [], ◌∷◌, length, All, IsPermutation, ap, ◌∙◌, subst}
use Rattle.std.proofs.Math.ListN.{get_or}
use Rattle.std.specs.List.Sorted.{IsNonDecreasingBy}
use Rattle.std.proofs.lemmas.List.Sorted.{sum_by-IsPermutation, length_permutation, All-permutation}
use Rattle.cube_pool.specs.Hands.{Deque, Doings, AreHandsOf, AreInOrder, AreSettled, one_for, times, weigh_all, pushed_by, fetched_by}
use Rattle.cube_pool.specs.Lanes.{weigh}
use Rattle.cube_pool.proofs.Lists.{same_or_not, sum_by_more}

-- no number is below the one before it, and the first isn't below m
abbrev Rises : ℕ → List Doings → Type 0
Rises m [] = Unit {0}
Rises m (x ∷ xs) = (m ≤ x.number) × Rises x.number xs

rises_on : (x : Doings) (xs : List Doings) → IsNonDecreasingBy (λ (d : Doings). d.number) (x ∷ xs) → Rises x.number xs
rises_on x [] h = tt
rises_on x (y ∷ ys) h = (h 0 1 x (omega arith) (omega arith), rises_on y ys (λ i j d le l. h (suc i) (suc j) d (omega (arith, le)) (omega (arith, l))))

rises : (xs : List Doings) → IsNonDecreasingBy (λ (d : Doings). d.number) xs → Rises 0 xs
rises [] h = tt
rises (x ∷ xs) h = (omega arith, rises_on x xs h)

pub times_more : (n : ℕ) (x : Doings) (xs : List Doings) → times n (x ∷ xs) ≡ one_for n x + times n xs
times_more n x xs = sum_by_more (one_for n) x xs

pub is_one : (n : ℕ) (x : Doings) → x.number ≡ n → one_for n x ≡ 1
is_one n x e = let P : Bool → ℕ = λ b. cond b 1 0 in ap P (eq-eqb x.number n e)

pub is_none : (n : ℕ) (x : Doings) → x.number ≢ n → one_for n x ≡ 0
is_none n x ne = let P : Bool → ℕ = λ b. cond b 1 0 in ap P (ne_eqb x.number n ne)

none_below : (m n : ℕ) (xs : List Doings) → Rises m xs → n < m → times n xs ≡ 0
none_below m n [] r l = λ i. 0
none_below m n (x ∷ xs) r l = omega (arith, times_more n x xs, is_none n x (λ e. absurd (omega (arith, e, l, r.0))), none_below x.number n xs r.1 (omega (arith, l, r.0)))

raised : (m : ℕ) (xs : List Doings) → Rises m xs → times m xs ≡ 0 → Rises (m + 1) xs
raised m [] r none = tt
raised m (x ∷ xs) r none = elim (same_or_not x.number m) [
  | inl is ↦ absurd (omega (arith, none, times_more m x xs, is_one m x is))
  | inr ne ↦ (omega (arith, ne, r.0), r.1)
]

first_is : (m : ℕ) (x : Doings) (xs : List Doings) → Rises m (x ∷ xs) → times m (x ∷ xs) ≡ 1 → x.number ≡ m
first_is m x xs r one = elim (same_or_not x.number m) [
  | inl is ↦ is
  | inr ne ↦ absurd (omega (arith, one, times_more m x xs, is_none m x ne, none_below x.number m xs r.1 (omega (arith, ne, r.0))))
]

numbers_from : (m : ℕ) (xs : List Doings) → Rises m xs → ((n : ℕ) → m ≤ n → n < m + length xs → times n xs ≡ 1) → (k : ℕ) (d : Doings) → k < length xs → (get_or xs k d).number ≡ m + k
numbers_from m [] r once k d l = absurd (omega (arith, l))
numbers_from m (x ∷ xs) r once zero d l = omega (arith, first_is m x xs r (once m (omega arith) (omega arith)))
numbers_from m (x ∷ xs) r once (suc k) d l =
    let one = once m (omega arith) (omega arith) in
    let is : x.number ≡ m = first_is m x xs r one in
    let rest : Rises (m + 1) xs = raised m xs (subst (λ (n : ℕ). Rises n xs) is r.1) (omega (arith, one, times_more m x xs, is_one m x is)) in
    let more : (n : ℕ) → m + 1 ≤ n → n < (m + 1) + length xs → times n xs ≡ 1 =
    λ n low high. (let was = once n (omega (arith, low)) (omega (arith, high)) in omega (arith, was, times_more n x xs, is_none n x (λ e. absurd (omega (arith, e, is, low))))) in
    omega (arith, numbers_from (m + 1) xs rest more k d (omega (arith, l)))

-- all hands in any order are by their numbers once they are sorted
pub sorted_hands : (pool : List Deque) (hands sorted : List Doings) → AreHandsOf pool hands → IsPermutation hands sorted → IsNonDecreasingBy (λ (d : Doings). d.number) sorted → AreInOrder pool sorted
sorted_hands pool hands sorted are permuted rise =
    let count : length sorted ≡ length hands = length_permutation hands sorted permuted in
    let once : (n : ℕ) → 0 ≤ n → n < 0 + length sorted → times n sorted ≡ 1 = λ n low high. sum_by-IsPermutation (one_for n) hands sorted permuted ∙ are.2 n (omega (arith, high, count, are.0)) in
    let pools : All (λ (d : Doings). d.pool ≡ pool) sorted = All-permutation (λ (d : Doings). d.pool ≡ pool) hands sorted permuted are.1 in
    (count ∙ are.0, λ k d l. (pools k d l, omega (arith, numbers_from 0 sorted (rises sorted rise) once k d l)))
