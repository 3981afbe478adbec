-- Lists by ascending time points in two parts.
use Rattle.std.proofs.Common.{refl, ap, sym, subst, ◌∙◌, arith, ◌≡◌, ◌≢◌, ℕ, zero, suc, ◌<◌, ◌≤◌, ◌+◌, ◌==◌, nat_lt, List, [], ◌∷◌, ◌++◌, length, take, drop, Bool, true, false, cond, ℤ, pos, neg_ℤ, ◌+ℤ◌, ◌≤ℤ◌, ◌^◌, get_or, to_z, of_z, w64}
use Rattle.std.specs.Prelude.{nat_le}
use Rattle.std.proofs.lemmas.Int.{ints}
use Rattle.std.proofs.lemmas.List.{append-nil, append_assoc, take-append-drop, drop_more, length-drop, nil_from_length}
use Rattle.std.proofs.lemmas.List.Elements.{filter-append}
use Rattle.std.proofs.lemmas.Bool.Decides.{nat_tests}
use Rattle.std.specs.List.{AllByRecursion}
use Rattle.std.specs.Ordering.{int_eq}
use Rattle.idl_linear.specs.declared.summand.Summand.{Summand}
use Rattle.idl_linear.specs.Linear.{put_before, with_summand}
use Rattle.idl_linear.specs.Forms.{AscendAbove, IsSummand}
use Rattle.idl_linear.specs.code.Steps.{IsRest}
use Rattle.idl_linear.specs.code.Trees.{part_at, coefficient_at, since, AllFrom, AllUpTo}
use Rattle.std.specs.List.Sorted.{IsNonDecreasingBy}
use Rattle.std.specs.Int.{w128}
use Rattle.idl_linear.specs.Limits.{coefficient_limit}
use Rattle.idl_linear.proofs.Merging.{within_low, within_high}
use Rattle.idl_linear.proofs.Coefficients.{summand, ascend_weaker, coefficient-append}

-- ---- what holds of a whole holds of its parts

pub ascend-front : (m : ℕ) (xs ys : List Summand) → AscendAbove m (xs ++ ys) → AscendAbove m xs
ascend-front m [] ys a = tt
ascend-front m (x ∷ xs) ys a = (a.0, a.1, ascend-front x.point xs ys a.2)

pub ascend-back : (m : ℕ) (xs ys : List Summand) → AscendAbove m (xs ++ ys) → AscendAbove m ys
ascend-back m [] ys a = a
ascend-back m (x ∷ xs) ys a = ascend_weaker m x.point ys a.0 (ascend-back x.point xs ys a.2)

module _ (P : Summand → Type 0) where
  pub all-front : (xs ys : List Summand) → AllByRecursion P (xs ++ ys) → AllByRecursion P xs
  all-front [] ys h = tt
  all-front (x ∷ xs) ys h = (h.0, all-front xs ys h.1)

  pub all-back : (xs ys : List Summand) → AllByRecursion P (xs ++ ys) → AllByRecursion P ys
  all-back [] ys h = h
  all-back (x ∷ xs) ys h = all-back xs ys h.1

  pub all-join : (xs ys : List Summand) → AllByRecursion P xs → AllByRecursion P ys → AllByRecursion P (xs ++ ys)
  all-join [] ys h k = k
  all-join (x ∷ xs) ys h k = (h.0, all-join xs ys h.1 k)

pub rest-front : (xs ys : List Summand) → IsRest (xs ++ ys) → IsRest xs
rest-front xs ys r = record { ascends = ascend-front 0 xs ys r.ascends; each = all-front IsSummand xs ys r.each }

pub rest-back : (xs ys : List Summand) → IsRest (xs ++ ys) → IsRest ys
rest-back xs ys r = record { ascends = ascend-back 0 xs ys r.ascends; each = all-back IsSummand xs ys r.each }

pub up_to-weaker : (m n : ℕ) (xs : List Summand) → m ≤ n → AllUpTo m xs → AllUpTo n xs
up_to-weaker m n [] le h = tt
up_to-weaker m n (x ∷ xs) le h = (omega (arith, h.0), up_to-weaker m n xs le h.1)

pub from-weaker : (m n : ℕ) (xs : List Summand) → m ≤ n → AllFrom n xs → AllFrom m xs
from-weaker m n [] le h = tt
from-weaker m n (x ∷ xs) le h = (omega (arith, h.0), from-weaker m n xs le h.1)

pub from_ascending : (m : ℕ) (xs : List Summand) → AscendAbove m xs → AllFrom (m + 1) xs
from_ascending m [] a = tt
from_ascending m (x ∷ xs) a = (omega (arith, a.0), from-weaker (m + 1) (x.point + 1) xs (omega (arith, a.0)) (from_ascending x.point xs a.2))

-- ---- one more summand goes into one of two parts

put-append : (s : Summand) (xs ys : List Summand) → put_before s (xs ++ ys) ≡ put_before s xs ++ ys
put-append s xs ys = put_by s xs ys (int_eq s.coefficient (pos 0)) where
  put_by : (s : Summand) (xs ys : List Summand) (b : Bool) → cond b (xs ++ ys) (s ∷ (xs ++ ys)) ≡ cond b xs (s ∷ xs) ++ ys
  put_by s xs ys true = refl
  put_by s xs ys false = refl

pub with-back : (s : Summand) (xs ys : List Summand) → AllUpTo s.point xs → with_summand s (xs ++ ys) ≡ xs ++ with_summand s ys
with-back s [] ys h = refl
with-back s (x ∷ xs) ys h =
    let below : x.point < s.point = h.0 in
    let less : nat_lt s.point x.point ≡ false = grind (arith, nat_tests, below) in
    let other : (s.point == x.point) ≡ false = grind (arith, nat_tests, below) in
    rw (less, other) (ap (λ (l : List Summand). x ∷ l) (with-back s xs ys h.1))

pub with-first : (s : Summand) (ys : List Summand) → AllFrom (s.point + 1) ys → with_summand s ys ≡ put_before s ys
with-first s [] h = refl
with-first s (y ∷ ys) h =
    let above : s.point + 1 ≤ y.point = h.0 in
    let less : nat_lt s.point y.point ≡ true = grind (arith, nat_tests, above) in
    rw less refl

front_by : (s x : Summand) (xs ys more : List Summand) (b c : Bool) → more ≡ with_summand s xs ++ ys
    → cond b (put_before s (x ∷ (xs ++ ys))) (cond c (put_before (record { point = x.point; coefficient = s.coefficient +ℤ x.coefficient }) (xs ++ ys)) (x ∷ more))
    ≡ cond b (put_before s (x ∷ xs)) (cond c (put_before (record { point = x.point; coefficient = s.coefficient +ℤ x.coefficient }) xs) (x ∷ with_summand s xs)) ++ ys
front_by s x xs ys more true c h = put-append s (x ∷ xs) ys
front_by s x xs ys more false true h = put-append (record { point = x.point; coefficient = s.coefficient +ℤ x.coefficient }) xs ys
front_by s x xs ys more false false h = ap (λ (l : List Summand). x ∷ l) h

pub with-front : (s : Summand) (xs ys : List Summand) → AllFrom (s.point + 1) ys → with_summand s (xs ++ ys) ≡ with_summand s xs ++ ys
with-front s [] ys h = with-first s ys h ∙ put-append s [] ys
with-front s (x ∷ xs) ys h = front_by s x xs ys (with_summand s (xs ++ ys)) (nat_lt s.point x.point) (s.point == x.point) (with-front s xs ys h)

-- ---- the coefficient of a time point in one of two parts

part_none : (p : ℕ) (b : Bool) (c : ℤ) → b ≡ false → cond b c (pos 0) ≡ pos 0
part_none p b c e = ap (λ (x : Bool). cond x c (pos 0)) e

pub coefficient-up_to : (p : ℕ) (xs : List Summand) → AllUpTo p xs → coefficient_at p xs ≡ pos 0
coefficient-up_to p [] h = refl
coefficient-up_to p (x ∷ xs) h =
    let below : x.point < p = h.0 in
    let other : (x.point == p) ≡ false = grind (arith, nat_tests, below) in
    let here : part_at p x ≡ pos 0 = part_none p (x.point == p) x.coefficient other in
    let rest = coefficient-up_to p xs h.1 in
    omega (arith, ints, here, rest)

pub coefficient-from : (p : ℕ) (xs : List Summand) → AllFrom (p + 1) xs → coefficient_at p xs ≡ pos 0
coefficient-from p [] h = refl
coefficient-from p (x ∷ xs) h =
    let above : p + 1 ≤ x.point = h.0 in
    let other : (x.point == p) ≡ false = grind (arith, nat_tests, above) in
    let here : part_at p x ≡ pos 0 = part_none p (x.point == p) x.coefficient other in
    let rest = coefficient-from p xs h.1 in
    omega (arith, ints, here, rest)

pub coefficient-front : (p : ℕ) (xs ys : List Summand) → AllFrom (p + 1) ys → coefficient_at p (xs ++ ys) ≡ coefficient_at p xs
coefficient-front p xs ys h =
    let both = coefficient-append p xs ys in
    let none = coefficient-from p ys h in
    omega (arith, ints, both, none)

pub coefficient-back : (p : ℕ) (xs ys : List Summand) → AllUpTo p xs → coefficient_at p (xs ++ ys) ≡ coefficient_at p ys
coefficient-back p xs ys h =
    let both = coefficient-append p xs ys in
    let none = coefficient-up_to p xs h in
    omega (arith, ints, both, none)

-- ---- those from a time point on

pub since-none : (from : ℕ) (xs : List Summand) → AllUpTo from xs → since from xs ≡ []
since-none from [] h = refl
since-none from (x ∷ xs) h =
    let below : x.point < from = h.0 in
    let test : nat_le from x.point ≡ false = grind (arith, nat_tests, below) in
    rw test (since-none from xs h.1)

pub since-all : (from : ℕ) (xs : List Summand) → AllFrom from xs → since from xs ≡ xs
since-all from [] h = refl
since-all from (x ∷ xs) h =
    let above : from ≤ x.point = h.0 in
    let test : nat_le from x.point ≡ true = grind (arith, nat_tests, above) in
    rw test (ap (λ (l : List Summand). x ∷ l) (since-all from xs h.1))

pub since-append : (from : ℕ) (xs ys : List Summand) → since from (xs ++ ys) ≡ since from xs ++ since from ys
since-append from xs ys = filter-append (λ (s : Summand). nat_le from s.point) xs ys

-- a leaf's summands from a time point on
module _ (from end k : ℕ) (xs part : List Summand) (below : AllUpTo from (take k xs)) (above : AllFrom from (drop k xs)) (is : part ≡ drop k xs) where
  pub leaf_since : since from xs ≡ part
  leaf_since =
      ap (since from) (sym (take-append-drop k xs)) ∙ since-append from (take k xs) (drop k xs)
      ∙ ap (λ (l : List Summand). l ++ since from (drop k xs)) (since-none from (take k xs) below)
      ∙ since-all from (drop k xs) above ∙ sym is

  pub leaf_piece : AllUpTo end xs → since from xs ≡ part ++ since end xs
  leaf_piece over = leaf_since ∙ sym (append-nil part) ∙ ap (λ (l : List Summand). part ++ l) (sym (since-none end xs over))

  pub leaf_none : length part ≡ 0 → since from xs ≡ []
  leaf_none none = leaf_since ∙ nil_from_length part none

-- a fork's
module _ (middle from next : ℕ) (xs ys part : List Summand) (left : AllUpTo middle xs) (right : AllFrom middle ys) where
  pub right_piece : middle ≤ from → from ≤ next → since from ys ≡ part ++ since next ys → since from (xs ++ ys) ≡ part ++ since next (xs ++ ys)
  right_piece le more e =
      since-append from xs ys
      ∙ ap (λ (l : List Summand). l ++ since from ys) (since-none from xs (up_to-weaker middle from xs le left))
      ∙ e
      ∙ ap (λ (l : List Summand). part ++ (l ++ since next ys)) (sym (since-none next xs (up_to-weaker middle next xs (omega arith) left)))
      ∙ ap (λ (l : List Summand). part ++ l) (sym (since-append next xs ys))

  pub right_none : middle ≤ from → since from ys ≡ [] → since from (xs ++ ys) ≡ []
  right_none le e =
      since-append from xs ys
      ∙ ap (λ (l : List Summand). l ++ since from ys) (since-none from xs (up_to-weaker middle from xs le left))
      ∙ e

  pub left_piece : from ≤ middle → next ≤ middle → since from xs ≡ part ++ since next xs → since from (xs ++ ys) ≡ part ++ since next (xs ++ ys)
  left_piece le more e =
      since-append from xs ys
      ∙ ap (λ (l : List Summand). l ++ since from ys) e
      ∙ append_assoc part (since next xs) (since from ys)
      ∙ ap (λ (l : List Summand). part ++ (since next xs ++ l)) (since-all from ys (from-weaker from middle ys le right) ∙ sym (since-all next ys (from-weaker next middle ys more right)))
      ∙ ap (λ (l : List Summand). part ++ l) (sym (since-append next xs ys))

  -- the left side has none, and what is from the split on is all of the right side
  module _ (split : ℕ) (up : AllUpTo split xs) (le : from ≤ middle) (few : split ≤ middle) (empty : since from xs ≡ []) where
    all_right : since from (xs ++ ys) ≡ since split ys
    all_right =
        since-append from xs ys
        ∙ ap (λ (l : List Summand). l ++ since from ys) empty
        ∙ since-all from ys (from-weaker from middle ys le right)
        ∙ sym (since-all split ys (from-weaker split middle ys few right))

    pub both_piece : split ≤ next → since split ys ≡ part ++ since next ys → since from (xs ++ ys) ≡ part ++ since next (xs ++ ys)
    both_piece more e =
        all_right ∙ e
        ∙ ap (λ (l : List Summand). part ++ (l ++ since next ys)) (sym (since-none next xs (up_to-weaker split next xs more up)))
        ∙ ap (λ (l : List Summand). part ++ l) (sym (since-append next xs ys))

    pub both_none : since split ys ≡ [] → since from (xs ++ ys) ≡ []
    both_none e = all_right ∙ e

-- ---- where one more summand meets a list

module _ (s : Summand) (before : ℕ) (xs : List Summand) (rest : IsRest xs) (below : AllUpTo s.point (take before xs)) (from : AllFrom s.point (drop before xs)) where
  parts : with_summand s xs ≡ take before xs ++ with_summand s (drop before xs)
  parts = ap (with_summand s) (sym (take-append-drop before xs)) ∙ with-back s (take before xs) (drop before xs) below

  ascends : AscendAbove 0 (drop before xs)
  ascends = ascend-back 0 (take before xs) (drop before xs) (subst (λ (l : List Summand). AscendAbove 0 l) (sym (take-append-drop before xs)) rest.ascends)

  there : coefficient_at s.point xs ≡ coefficient_at s.point (drop before xs)
  there = ap (coefficient_at s.point) (sym (take-append-drop before xs)) ∙ coefficient-back s.point (take before xs) (drop before xs) below

  -- a summand of the same time point
  module _ (x : Summand) (ys : List Summand) (e : drop before xs ≡ x ∷ ys) (same : x.point ≡ s.point) where
    behind_above : AllFrom (s.point + 1) ys
    behind_above =
        let all : AscendAbove 0 (x ∷ ys) = subst (λ (l : List Summand). AscendAbove 0 l) e ascends in
        subst (λ (k : ℕ). AllFrom (k + 1) ys) same (from_ascending x.point ys all.2)

    pub meets : with_summand s xs ≡ take before xs ++ put_before (summand s.point (s.coefficient +ℤ x.coefficient)) ys
    meets =
        let less : nat_lt s.point x.point ≡ false = grind (arith, nat_tests, same) in
        let equal : (s.point == x.point) ≡ true = grind (arith, nat_tests, same) in
        let here : with_summand s (x ∷ ys) ≡ put_before (summand x.point (s.coefficient +ℤ x.coefficient)) ys = rw (less, equal) refl in
        parts ∙ ap (λ (l : List Summand). take before xs ++ with_summand s l) e
        ∙ ap (λ (l : List Summand). take before xs ++ l) here
        ∙ ap (λ (k : ℕ). take before xs ++ put_before (summand k (s.coefficient +ℤ x.coefficient)) ys) same

    pub meets_coefficient : coefficient_at s.point xs ≡ x.coefficient
    meets_coefficient =
        let equal : (x.point == s.point) ≡ true = grind (arith, nat_tests, same) in
        let here : part_at s.point x ≡ x.coefficient = ap (λ (b : Bool). cond b x.coefficient (pos 0)) equal in
        let none = coefficient-from s.point ys behind_above in
        let all : coefficient_at s.point xs ≡ part_at s.point x +ℤ coefficient_at s.point ys = there ∙ ap (coefficient_at s.point) e in
        omega (arith, ints, here, none, all)

  -- and none of it
  module _ (above : AllFrom (s.point + 1) (drop before xs)) where
    pub passes : with_summand s xs ≡ take before xs ++ put_before s (drop before xs)
    passes = parts ∙ ap (λ (l : List Summand). take before xs ++ l) (with-first s (drop before xs) above)

    pub passes_coefficient : coefficient_at s.point xs ≡ pos 0
    passes_coefficient = there ∙ coefficient-from s.point (drop before xs) above

  none_left : length xs ≤ before → AllFrom (s.point + 1) (drop before xs)
  none_left le =
      let e : drop before xs ≡ [] = nil_from_length (drop before xs) (length-drop before xs ∙ omega (arith, le)) in
      subst (λ (l : List Summand). AllFrom (s.point + 1) l) (sym e) tt

  other_left : (x : Summand) (ys : List Summand) → drop before xs ≡ x ∷ ys → x.point ≢ s.point → AllFrom (s.point + 1) (drop before xs)
  other_left x ys e ne =
      let all : AscendAbove 0 (x ∷ ys) = subst (λ (l : List Summand). AscendAbove 0 l) e ascends in
      let first : AllFrom s.point (x ∷ ys) = subst (λ (l : List Summand). AllFrom s.point l) e from in
      let more : s.point + 1 ≤ x.point = omega (arith, first.0, ne) in
      subst (λ (l : List Summand). AllFrom (s.point + 1) l) (sym e) (more, from-weaker (s.point + 1) (x.point + 1) ys (omega (arith, more)) (from_ascending x.point ys all.2))

  -- the place has another time point
  pub others_left : before < length xs → (get_or xs before (record { point = 0; coefficient = pos 0 })).point ≢ s.point → AllFrom (s.point + 1) (drop before xs)
  others_left lt ne = other_left (get_or xs before (summand 0 (pos 0))) (drop (before + 1) xs) (drop_more xs before (summand 0 (pos 0)) lt) ne

  pub no_place : length xs ≤ before → AllFrom (s.point + 1) (drop before xs)
  no_place le = none_left le

  -- the place has this time point
  module _ (lt : before < length xs) (same : (get_or xs before (record { point = 0; coefficient = pos 0 })).point ≡ s.point) where
    coefficient_near : (neg_ℤ (pos coefficient_limit) ≤ℤ (get_or xs before (record { point = 0; coefficient = pos 0 })).coefficient) × ((get_or xs before (record { point = 0; coefficient = pos 0 })).coefficient ≤ℤ pos coefficient_limit)
    coefficient_near =
        let all : AllByRecursion IsSummand (take before xs ++ drop before xs) = subst (λ (l : List Summand). AllByRecursion IsSummand l) (sym (take-append-drop before xs)) rest.each in
        let these = all-back IsSummand (take before xs) (drop before xs) all in
        let here : AllByRecursion IsSummand (get_or xs before (record { point = 0; coefficient = pos 0 }) ∷ drop (before + 1) xs) = subst (λ (l : List Summand). AllByRecursion IsSummand l) (drop_more xs before (summand 0 (pos 0)) lt) these in
        (within_low coefficient_limit (get_or xs before (record { point = 0; coefficient = pos 0 })).coefficient here.0.limited, within_high coefficient_limit (get_or xs before (record { point = 0; coefficient = pos 0 })).coefficient here.0.limited)

    -- as the code adds it
    module _ (n : ℤ) (is : n ≡ to_z w64 (of_z w64 (get_or xs before (record { point = 0; coefficient = pos 0 })).coefficient)) (low : neg_ℤ (pos (2 ^ 100)) ≤ℤ s.coefficient) (high : s.coefficient ≤ℤ pos (2 ^ 100)) where
      number : to_z w128 (of_z w128 (to_z w128 (of_z w128 s.coefficient) +ℤ to_z w128 (of_z w128 n))) ≡ s.coefficient +ℤ (get_or xs before (record { point = 0; coefficient = pos 0 })).coefficient
      number =
          let near = coefficient_near in
          omega (arith, ints, near.0, near.1, is, low, high)

      pub met_coefficient : to_z w128 (of_z w128 (to_z w128 (of_z w128 s.coefficient) +ℤ to_z w128 (of_z w128 n))) ≡ coefficient_at s.point xs +ℤ s.coefficient
      met_coefficient =
          let total = number in
          let here = meets_coefficient (get_or xs before (summand 0 (pos 0))) (drop (before + 1) xs) (drop_more xs before (summand 0 (pos 0)) lt) same in
          omega (arith, ints, total, here)

      pub met_with : with_summand s xs ≡ take before xs ++ put_before (record { point = s.point; coefficient = to_z w128 (of_z w128 (to_z w128 (of_z w128 s.coefficient) +ℤ to_z w128 (of_z w128 n))) }) (drop (before + 1) xs)
      met_with =
          meets (get_or xs before (summand 0 (pos 0))) (drop (before + 1) xs) (drop_more xs before (summand 0 (pos 0)) lt) same
          ∙ ap (λ (z : ℤ). take before xs ++ put_before (summand s.point z) (drop (before + 1) xs)) (sym number)

  -- no summand has it, as the code adds it
  module _ (above : AllFrom (s.point + 1) (drop before xs)) (low : neg_ℤ (pos (2 ^ 100)) ≤ℤ s.coefficient) (high : s.coefficient ≤ℤ pos (2 ^ 100)) where
    pub passed_coefficient : to_z w128 (of_z w128 s.coefficient) ≡ coefficient_at s.point xs +ℤ s.coefficient
    passed_coefficient =
        let here = passes_coefficient above in
        omega (arith, ints, here, low, high)

    pub passed_with : with_summand s xs ≡ take before xs ++ put_before (record { point = s.point; coefficient = to_z w128 (of_z w128 s.coefficient) }) (drop before xs)
    passed_with =
        let number : to_z w128 (of_z w128 s.coefficient) ≡ s.coefficient = omega (arith, ints, low, high) in
        passes above ∙ ap (λ (z : ℤ). take before xs ++ put_before (summand s.point z) (drop before xs)) (sym number)

-- ---- the number of summands below a time point

point_above : (m : ℕ) (xs : List Summand) → AscendAbove m xs → (j : ℕ) (d : Summand) → j < length xs → m < (get_or xs j d).point
point_above m [] a j d lt = absurd (omega arith)
point_above m (x ∷ xs) a zero d lt = a.0
point_above m (x ∷ xs) a (suc j) d lt =
    let more = point_above x.point xs a.2 j d (omega arith) in
    omega (arith, a.0, more)

pub non_decreasing : (m : ℕ) (xs : List Summand) → AscendAbove m xs → IsNonDecreasingBy (λ (s : Summand). s.point) xs
non_decreasing m [] a i j d le lt = absurd (omega arith)
non_decreasing m (x ∷ xs) a zero zero d le lt = omega arith
non_decreasing m (x ∷ xs) a zero (suc j) d le lt =
    let more = point_above x.point xs a.2 j d (omega arith) in
    omega (arith, more)
non_decreasing m (x ∷ xs) a (suc i) zero d le lt = absurd (omega arith)
non_decreasing m (x ∷ xs) a (suc i) (suc j) d le lt = non_decreasing x.point xs a.2 i j d (omega arith) (omega arith)

pub up_to-points : (p k : ℕ) (xs : List Summand) → ((j : ℕ) (d : Summand) → j < k → j < length xs → (get_or xs j d).point < p) → AllUpTo p (take k xs)
up_to-points p zero xs h = tt
up_to-points p (suc k) [] h = tt
up_to-points p (suc k) (x ∷ xs) h = (h 0 x (omega arith) (omega arith), up_to-points p k xs (λ j d lt le. h (suc j) d (omega arith) (omega arith)))

pub from-points : (p k : ℕ) (xs : List Summand) → ((j : ℕ) (d : Summand) → k ≤ j → j < length xs → p ≤ (get_or xs j d).point) → AllFrom p (drop k xs)
from-points p zero [] h = tt
from-points p zero (x ∷ xs) h = (h 0 x (omega arith) (omega arith), from-points p zero xs (λ j d le lt. h (suc j) d (omega arith) (omega arith)))
from-points p (suc k) [] h = tt
from-points p (suc k) (x ∷ xs) h = from-points p k xs (λ j d le lt. h (suc j) d (omega arith) (omega arith))
