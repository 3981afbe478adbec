-- What holds of the linear term of each case.
use Rattle.std.proofs.Common.{arith, ◌≡◌, ℕ, ◌≤◌, ◌+◌, List, [], ◌∷◌, ◌++◌, map, Bool, true, false}
use Rattle.std.specs.List.{AllByRecursion}
use Rattle.idl_linear.specs.Limits.{coefficient_limit, constant_limit}
use Rattle.idl_linear.specs.Linear.{LinearValue, negative_of}
use Rattle.idl_linear.specs.Forms.{IsLinear}
use Rattle.idl_linear.specs.code.Bounded.{IsOver}
use Rattle.idl_linear.proofs.SumLaws.{over_linear, over_pair, over_negative, bounded_pair, bounded_negative, bounded_wider, bounded_linear, linear_bounded}
use Rattle.idl_cases.specs.Guarded.{CaseValue, guarded, branched}
use Rattle.idl_cases.specs.code.Bounded.{AreBounded, AreLimits, AreLinear, AreOver, IsBelow, IsTogether, IsWithinBounds}
use Rattle.idl_cases.specs.code.CaseSums.{added, added_each, moved, negated_case, pair_sum, signed_cases}
use Rattle.idl_cases.specs.declared.bounds.Bounds.{Bounds}

abbrev pub Linears : (LinearValue → Type 0) → List CaseValue → Type 0
Linears P cases = AllByRecursion (λ (c : CaseValue). P c.linear) cases

module _ (P : LinearValue → Type 0) where
  pub each_join : (xs ys : List CaseValue) → Linears P xs → Linears P ys → Linears P (xs ++ ys)
  each_join [] ys h k = k
  each_join (x ∷ xs) ys h k = (h.0, each_join xs ys h.1 k)

  pub each_guarded : (g : ℕ) (xs : List CaseValue) → Linears P xs → Linears P (map (guarded g) xs)
  each_guarded g [] h = tt
  each_guarded g (x ∷ xs) h = (h.0, each_guarded g xs h.1)

  pub each_branched : (c d : ℕ) (xs ys : List CaseValue) → Linears P xs → Linears P ys → Linears P (branched c d xs ys)
  each_branched c d xs ys h k = each_join (map (guarded c) xs) (map (guarded d) ys) (each_guarded c xs h) (each_guarded d ys k)

module _ (P Q : LinearValue → Type 0) where
  pub each_better : ((l : LinearValue) → P l → Q l) → (xs : List CaseValue) → Linears P xs → Linears Q xs
  each_better f [] h = tt
  each_better f (x ∷ xs) h = (f x.linear h.0, each_better f xs h.1)

  pub each_negated : ((l : LinearValue) → P l → Q (negative_of l)) → (xs : List CaseValue) → Linears P xs → Linears Q (map negated_case xs)
  each_negated f [] h = tt
  each_negated f (x ∷ xs) h = (f x.linear h.0, each_negated f xs h.1)

module _ (P Q R : LinearValue → Type 0) (f : (a b : LinearValue) → P a → Q b → R (pair_sum a b)) where
  pub each_moved : (by : LinearValue) (xs : List CaseValue) → P by → Linears Q xs → Linears R (map (moved by) xs)
  each_moved by [] p h = tt
  each_moved by (x ∷ xs) p h = (f by x.linear p h.0, each_moved by xs p h.1)

  each_one : (a : CaseValue) (xs : List CaseValue) → P a.linear → Linears Q xs → Linears R (map (added a) xs)
  each_one a [] p h = tt
  each_one a (x ∷ xs) p h = (f a.linear x.linear p h.0, each_one a xs p h.1)

  pub each_added : (xs ys : List CaseValue) → Linears P xs → Linears Q ys → Linears R (added_each xs ys)
  each_added [] ys h k = tt
  each_added (x ∷ xs) ys h k = each_join R (map (added x) ys) (added_each xs ys) (each_one x ys h.0 k) (each_added xs ys h.1 k)

pub over_added : (xs ys : List CaseValue) → AreOver xs → AreOver ys → AreOver (added_each xs ys)
over_added xs ys h k = each_added IsOver IsOver IsOver over_pair xs ys h k

pub over_negated : (xs : List CaseValue) → AreOver xs → AreOver (map negated_case xs)
over_negated xs h = each_negated IsOver IsOver over_negative xs h

pub over_signed : (negated : Bool) (xs : List CaseValue) → AreOver xs → AreOver (signed_cases negated xs)
over_signed true xs h = over_negated xs h
over_signed false xs h = h

pub over_each : (xs : List CaseValue) → AreLinear xs → AreOver xs
over_each xs h = each_better IsLinear IsOver over_linear xs h

pub over_bounded : (b : Bounds) (xs : List CaseValue) → AreBounded b xs → AreOver xs
over_bounded b xs h = each_better (IsWithinBounds b) IsOver (λ l k. k.over) xs h

pub linear_each : (b : Bounds) (xs : List CaseValue) → AreLimits b → AreBounded b xs → AreLinear xs
linear_each b xs limits h = each_better (IsWithinBounds b) IsLinear (λ l k. linear_bounded b.constant b.coefficient l limits.0 limits.1 k) xs h

pub bounded_each : (b : Bounds) (xs : List CaseValue) → b.constant ≡ constant_limit → b.coefficient ≡ coefficient_limit → AreLinear xs → AreBounded b xs
bounded_each b xs e f h =
    each_better IsLinear (IsWithinBounds b) (λ l k. bounded_wider constant_limit coefficient_limit b.constant b.coefficient l (omega (arith, e)) (omega (arith, f)) (bounded_linear l k)) xs h

pub bounded_below : (a b : Bounds) (xs : List CaseValue) → IsBelow a b → AreBounded a xs → AreBounded b xs
bounded_below a b xs le h = each_better (IsWithinBounds a) (IsWithinBounds b) (λ l k. bounded_wider a.constant a.coefficient b.constant b.coefficient l le.0 le.1 k) xs h

pub bounded_negated : (b : Bounds) (negated : Bool) (xs : List CaseValue) → AreBounded b xs → AreBounded b (signed_cases negated xs)
bounded_negated b true xs h = each_negated (IsWithinBounds b) (IsWithinBounds b) (λ l k. bounded_negative b.constant b.coefficient l k) xs h
bounded_negated b false xs h = h

module _ (a b c : Bounds) (e : IsTogether a b c) where
  together : (l m : LinearValue) → IsWithinBounds a l → IsWithinBounds b m → IsWithinBounds c (pair_sum l m)
  together l m h k =
      let first : a.constant + b.constant ≤ c.constant = omega (arith, e.0) in
      let second : a.coefficient + b.coefficient ≤ c.coefficient = omega (arith, e.1) in
      bounded_wider (a.constant + b.constant) (a.coefficient + b.coefficient) c.constant c.coefficient (pair_sum l m) first second (bounded_pair a.constant a.coefficient b.constant b.coefficient l m h k)

  pub bounded_added : (xs ys : List CaseValue) → AreBounded a xs → AreBounded b ys → AreBounded c (added_each xs ys)
  bounded_added xs ys h k = each_added (IsWithinBounds a) (IsWithinBounds b) (IsWithinBounds c) together xs ys h k

  pub bounded_moved : (by : LinearValue) (xs : List CaseValue) → IsWithinBounds a by → AreBounded b xs → AreBounded c (map (moved by) xs)
  bounded_moved by xs h k = each_moved (IsWithinBounds a) (IsWithinBounds b) (IsWithinBounds c) together by xs h k

pub bounded_branched : (b : Bounds) (c d : ℕ) (xs ys : List CaseValue) → AreBounded b xs → AreBounded b ys → AreBounded b (branched c d xs ys)
bounded_branched b c d xs ys h k = each_branched (IsWithinBounds b) c d xs ys h k

pub linear_signed : (negated : Bool) (xs : List CaseValue) → AreLinear xs → AreLinear (signed_cases negated xs)
linear_signed true xs h =
    each_negated IsLinear IsLinear (λ l k. linear_bounded constant_limit coefficient_limit (negative_of l) (omega arith) (omega arith) (bounded_negative constant_limit coefficient_limit l (bounded_linear l k))) xs h
linear_signed false xs h = h
