-- What is collected of a list and of the same list sorted.
use Rattle.std.proofs.Common.{refl, ap, ◌∙◌, arith, inl, inr, ◌≡◌, ℕ, zero, suc, ◌<◌, ◌≤◌, ◌==◌, nat_lt, List, [], ◌∷◌, length, get_or, set, Bool, true, false, cond, ℤ, pos, ◌+ℤ◌, IsPermutation}
use Rattle.std.proofs.lemmas.Int.{ints}
use Rattle.std.proofs.lemmas.Bool.{cases_eq}
use Rattle.std.proofs.lemmas.List.{get_or-set_same, get_or-set_other, length-set}
use Rattle.std.proofs.lemmas.List.Elements.{All-from_recursion, recursion_from_All}
use Rattle.std.proofs.lemmas.List.Sorted.{IsPermutation-keeps, All-permutation}
use Rattle.std.specs.List.{AllByRecursion, swap}
use Rattle.std.specs.List.Sorted.{IsNonDecreasingBy}
use Rattle.std.specs.Ordering.{int_eq}
use Rattle.idl_linear.specs.declared.summand.Summand.{Summand}
use Rattle.idl_linear.specs.Limits.{points_limit}
use Rattle.idl_linear.specs.Linear.{put_before, with_summand, collected, is_limited}
use Rattle.idl_linear.specs.Forms.{IsSummand, IsLinear}
use Rattle.idl_linear.specs.code.Steps.{RiseFrom}
use Rattle.idl_linear.specs.code.Trees.{part_at, coefficient_at}
use Rattle.idl_linear.proofs.Coefficients.{AllAbove, ascend-collected}
use Rattle.idl_linear.proofs.Collecting.{collected-same}

coefficient-set : (p : ℕ) (l : List Summand) (i : ℕ) (x d : Summand) → i < length l → coefficient_at p (set l i x) +ℤ part_at p (get_or l i d) ≡ coefficient_at p l +ℤ part_at p x
coefficient-set p [] i x d lt = absurd (omega arith)
coefficient-set p (y ∷ l) zero x d lt = omega (arith, ints)
coefficient-set p (y ∷ l) (suc i) x d lt =
    let rest = coefficient-set p l i x d (omega arith) in
    omega (arith, ints, rest)

swapped_is : (l : List Summand) (i j : ℕ) (d : Summand) → i < length l → get_or (set l i (get_or l j d)) j d ≡ get_or l j d
swapped_is l i j d lt = elim (cases_eq j i) [
  | inl same ↦ ap (λ (k : ℕ). get_or (set l i (get_or l j d)) k d) same ∙ get_or-set_same l i (get_or l j d) d lt
  | inr other ↦ get_or-set_other l i j (get_or l j d) d other
]

coefficient-swap : (p : ℕ) (l : List Summand) (i j : ℕ) → i < length l → j < length l → coefficient_at p (swap l i j) ≡ coefficient_at p l
coefficient-swap p [] i j a b = refl
coefficient-swap p (d ∷ ys) i j a b =
    let x = get_or (d ∷ ys) i d in
    let y = get_or (d ∷ ys) j d in
    let first = coefficient-set p (d ∷ ys) i y d a in
    let second = coefficient-set p (set (d ∷ ys) i y) j x d (rw length-set b) in
    let there = ap (part_at p) (swapped_is (d ∷ ys) i j d a) in
    omega (arith, ints, first, second, there)

coefficient-permuted : (p : ℕ) (xs ys : List Summand) → IsPermutation xs ys → coefficient_at p ys ≡ coefficient_at p xs
coefficient-permuted p xs ys h =
    IsPermutation-keeps xs (λ (l : List Summand). coefficient_at p l ≡ coefficient_at p xs) refl
    (λ l i j a b e. coefficient-swap p l i j a b ∙ e) ys h

pub each_above : (xs : List Summand) → AllByRecursion IsSummand xs → AllAbove 0 xs
each_above [] h = tt
each_above (x ∷ xs) h = (h.0.above, each_above xs h.1)

pub each-permuted : (xs ys : List Summand) → IsPermutation xs ys → AllByRecursion IsSummand xs → AllByRecursion IsSummand ys
each-permuted xs ys h each = recursion_from_All IsSummand ys (All-permutation IsSummand xs ys h (All-from_recursion IsSummand xs each))

-- an order of the summands doesn't matter
pub collected-permuted : (xs ys : List Summand) → IsPermutation xs ys → AllByRecursion IsSummand xs → collected ys ≡ collected xs
collected-permuted xs ys h each =
    collected-same 0 ys xs (each_above ys (each-permuted xs ys h each)) (each_above xs each) (λ p. coefficient-permuted p xs ys h)

rise_sorted : (m : ℕ) (xs : List Summand) → ((j : ℕ) (d : Summand) → j < length xs → m ≤ (get_or xs j d).point) → IsNonDecreasingBy (λ (s : Summand). s.point) xs → RiseFrom m xs
rise_sorted m [] low sorted = tt
rise_sorted m (x ∷ xs) low sorted =
    (low 0 x (omega arith), rise_sorted x.point xs (λ j d lt. sorted 0 (suc j) d (omega arith) (omega arith)) (λ i j d le lt. sorted (suc i) (suc j) d (omega arith) (omega arith)))

each_at : (xs : List Summand) → AllByRecursion IsSummand xs → (j : ℕ) (d : Summand) → j < length xs → 1 ≤ (get_or xs j d).point
each_at [] h j d lt = absurd (omega arith)
each_at (x ∷ xs) h zero d lt = omega (arith, h.0.above)
each_at (x ∷ xs) h (suc j) d lt = each_at xs h.1 j d (omega arith)

pub rise_from_sorted : (xs : List Summand) → AllByRecursion IsSummand xs → IsNonDecreasingBy (λ (s : Summand). s.point) xs → RiseFrom 1 xs
rise_from_sorted xs each sorted = rise_sorted 1 xs (each_at xs each) sorted

-- what is collected is over the same time points
module _ (P : ℕ → Type 0) where
  abbrev Points : List Summand → Type 0
  Points l = AllByRecursion (λ (s : Summand). P s.point) l

  points_put : (s : Summand) (l : List Summand) (b : Bool) → P s.point → Points l → Points (cond b l (s ∷ l))
  points_put s l true h k = k
  points_put s l false h k = (h, k)

  points_by : (s t : Summand) (ts rest : List Summand) (b c : Bool) → P s.point → Points (t ∷ ts) → Points rest
      → Points (cond b (put_before s (t ∷ ts)) (cond c (put_before (record { point = t.point; coefficient = s.coefficient +ℤ t.coefficient }) ts) (t ∷ rest)))
  points_by s t ts rest true c h k r = points_put s (t ∷ ts) (int_eq s.coefficient (pos 0)) h k
  points_by s t ts rest false true h k r = points_put (record { point = t.point; coefficient = s.coefficient +ℤ t.coefficient }) ts (int_eq (s.coefficient +ℤ t.coefficient) (pos 0)) k.0 k.1
  points_by s t ts rest false false h k r = (k.0, r)

  pub points_with : (s : Summand) (l : List Summand) → P s.point → Points l → Points (with_summand s l)
  points_with s [] h k = points_put s [] (int_eq s.coefficient (pos 0)) h k
  points_with s (t ∷ ts) h k = points_by s t ts (with_summand s ts) (nat_lt s.point t.point) (s.point == t.point) h k (points_with s ts h k.1)

  pub points-collected : (xs : List Summand) → AllByRecursion (λ (s : Summand). P s.point) xs → AllByRecursion (λ (s : Summand). P s.point) (collected xs)
  points-collected [] h = tt
  points-collected (x ∷ xs) h = points_with x (collected xs) h.0 (points-collected xs h.1)

each_below : (xs : List Summand) → AllByRecursion IsSummand xs → AllByRecursion (λ (s : Summand). s.point < points_limit) xs
each_below [] h = tt
each_below (x ∷ xs) h = (h.0.below, each_below xs h.1)

-- a sum within the limits is a linear term
pub linear_from_sum : (xs : List Summand) (constant : ℤ) → AllByRecursion IsSummand xs → is_limited (record { summands = collected xs; constant = constant }) ≡ true → IsLinear (record { summands = collected xs; constant = constant })
linear_from_sum xs constant each limited = record {
  ascends = ascend-collected 0 xs (each_above xs each);
  over = points-collected (λ (p : ℕ). p < points_limit) xs (each_below xs each);
  limited = limited;
}
