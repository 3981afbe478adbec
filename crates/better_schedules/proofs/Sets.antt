-- Sets of points, made in ascending order.
use Rattle.std.proofs.Common.{arith, ap, sym, ◌∙◌, subst, inl, inr, ◌⊎◌, ◌≡◌, ℕ, ◌+◌, ◌<◌, ◌≤◌, true, false, nat_eq, List, [], ◌∷◌, ◌++◌, length, All, Contains, get_or, slice_index}
use Rattle.std.specs.List.Sorted.{IsStrictlyIncreasing}
use Rattle.std.proofs.lemmas.List.Elements.{All-nil, All-push, Contains-push, Contains-append_left}
use Rattle.better_schedules.specs.code.Heights.{IsSetUpTo}
use Rattle.std.proofs.lemmas.Bool.{cases_lt}
use Rattle.std.proofs.lemmas.List.{get_or_append_left, length-append}
use Rattle.std.proofs.Math.Seq.{get_or-append_seam}

-- a number above all goes to the end
pub ascending_push : (xs : List ℕ) (n : ℕ) → IsStrictlyIncreasing xs → All (λ (p : ℕ). p < n) xs → IsStrictlyIncreasing (xs ++ n ∷ [])
ascending_push xs n up below k h =
    let len : length (xs ++ n ∷ []) ≡ length xs + 1 = length-append xs (n ∷ []) in
    let left : get_or (xs ++ n ∷ []) k 0 ≡ get_or xs k 0 = get_or_append_left xs (n ∷ []) 0 k (omega (arith, len, h)) in
    elim (cases_lt (k + 1) (length xs)) [
      | inl lt ↦
          let right : get_or (xs ++ n ∷ []) (k + 1) 0 ≡ get_or xs (k + 1) 0 = get_or_append_left xs (n ∷ []) 0 (k + 1) lt in
          omega (arith, left, right, up k lt)
      | inr ge ↦
          let end : k + 1 ≡ length xs = omega (arith, len, h, ge) in
          let seam : get_or (xs ++ n ∷ []) (length xs) 0 ≡ n = get_or-append_seam xs n [] 0 in
          let right : get_or (xs ++ n ∷ []) (k + 1) 0 ≡ n = ap (λ (i : ℕ). get_or (xs ++ n ∷ []) i 0) end ∙ seam in
          omega (arith, left, right, below k 0 (omega (arith, end)))
    ]

-- one more point is looked at, and taken if its height is low
pub record IsPart (heights : List ℕ) (limit place : ℕ) (set : List ℕ) : Type 0 where
  pub within : All (λ (p : ℕ). p < place) set
  pub low : All (λ (p : ℕ). slice_index heights p ≤ limit) set
  pub all : (p : ℕ) → p < place → slice_index heights p ≤ limit → Contains set p
  pub ascending : IsStrictlyIncreasing set

weaker : (place : ℕ) (set : List ℕ) → All (λ (p : ℕ). p < place) set → All (λ (p : ℕ). p < place + 1) set
weaker place set h k d k_in = omega (arith, h k d k_in)

pub part_skipped : (heights : List ℕ) (limit place : ℕ) (set new : List ℕ) → IsPart heights limit place set → limit < slice_index heights place → new ≡ set → IsPart heights limit (place + 1) new
part_skipped heights limit place set new part high e = subst (IsPart heights limit (place + 1)) (sym e) (record {
  within = weaker place set part.within;
  low = part.low;
  all = λ p h l. elim (cases_lt p place) [
    | inl lt ↦ part.all p lt l
    | inr ge ↦
        let same : p ≡ place = omega arith in
        let there : slice_index heights place ≤ limit = subst (λ (q : ℕ). slice_index heights q ≤ limit) same l in
        absurd (omega (arith, there, high))
  ];
  ascending = part.ascending;
})

pub part_taken : (heights : List ℕ) (limit place n : ℕ) (set new : List ℕ) → IsPart heights limit place set → slice_index heights place ≤ limit → new ≡ set ++ n ∷ [] → n ≡ place → IsPart heights limit (place + 1) new
part_taken heights limit place n set new part low e n_is =
    let pushed : new ≡ set ++ place ∷ [] = e ∙ ap (λ (q : ℕ). set ++ q ∷ []) n_is in
    subst (IsPart heights limit (place + 1)) (sym pushed) (record {
      within = All-push (λ (p : ℕ). p < place + 1) set place (weaker place set part.within) (omega arith);
      low = All-push (λ (p : ℕ). slice_index heights p ≤ limit) set place part.low low;
      all = λ p h l. elim (cases_lt p place) [
        | inl lt ↦ Contains-append_left set (place ∷ []) p (part.all p lt l)
        | inr ge ↦ let same : place ≡ p = omega arith in subst (λ (q : ℕ). Contains (set ++ place ∷ []) q) same (Contains-push set place)
      ];
      ascending = ascending_push set place part.ascending part.within;
    })

pub part_none : (heights : List ℕ) (limit : ℕ) (set : List ℕ) → set ≡ [] → IsPart heights limit 0 set
part_none heights limit set e = subst (IsPart heights limit 0) (sym e) (record {
  within = All-nil (λ (p : ℕ). p < 0);
  low = All-nil (λ (p : ℕ). slice_index heights p ≤ limit);
  all = λ p h l. absurd (omega (arith, h));
  ascending = λ k h. absurd (omega (arith, h));
})

pub part_done : (heights : List ℕ) (limit place : ℕ) (set : List ℕ) → IsPart heights limit place set → place ≡ length heights → IsSetUpTo heights limit set
part_done heights limit place set part end = record {
  within = λ k d k_in. omega (arith, part.within k d k_in, end);
  low = part.low;
  all = λ p h l. part.all p (omega (arith, h, end)) l;
}
