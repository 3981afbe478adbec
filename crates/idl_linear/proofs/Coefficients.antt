-- The coefficient of a time point in a list of summands. A list that ascends is known by them.
use Rattle.std.proofs.Common.{refl, ap, sym, subst, inl, inr, ◌∙◌, arith, ◌≡◌, ◌≢◌, ℕ, ◌<◌, ◌==◌, nat_lt, List, [], ◌∷◌, ◌++◌, Bool, true, false, cond, ℤ, pos, ◌+ℤ◌}
use Rattle.std.proofs.lemmas.Int.{ints}
use Rattle.std.proofs.lemmas.Bool.{cases_lt}
use Rattle.std.proofs.lemmas.Bool.Decides.{nat_tests, Decides-int_eq, not_from_Decides}
use Rattle.std.proofs.Math.IntN.{+ℤ_idl}
use Rattle.std.specs.Ordering.{int_eq}
use Rattle.idl_linear.specs.declared.summand.Summand.{Summand}
use Rattle.idl_linear.specs.Linear.{put_before, with_summand, collected}
use Rattle.idl_linear.specs.Forms.{AscendAbove}
use Rattle.idl_linear.specs.code.Trees.{part_at, coefficient_at}

abbrev pub summand : ℕ → ℤ → Summand
summand point coefficient = record { point = point; coefficient = coefficient }

part_zero : (b : Bool) (c : ℤ) → c ≡ pos 0 → cond b c (pos 0) ≡ pos 0
part_zero true c e = e
part_zero false c e = refl

part_sum : (b : Bool) (c d e : ℤ) → cond b (c +ℤ d) (pos 0) +ℤ e ≡ cond b c (pos 0) +ℤ (cond b d (pos 0) +ℤ e)
part_sum true c d e = omega (arith, ints)
part_sum false c d e = omega (arith, ints)

put_by : (p : ℕ) (s : Summand) (rest : List Summand) (b : Bool) → int_eq s.coefficient (pos 0) ≡ b → coefficient_at p (cond b rest (s ∷ rest)) ≡ part_at p s +ℤ coefficient_at p rest
put_by p s rest true e =
    let none : part_at p s ≡ pos 0 = part_zero (s.point == p) s.coefficient ((Decides-int_eq s.coefficient (pos 0)).0 e) in
    omega (arith, ints, none)
put_by p s rest false e = refl

pub coefficient-put : (p : ℕ) (s : Summand) (rest : List Summand) → coefficient_at p (put_before s rest) ≡ part_at p s +ℤ coefficient_at p rest
coefficient-put p s rest = put_by p s rest (int_eq s.coefficient (pos 0)) refl

with_by : (p : ℕ) (s t : Summand) (ts rest : List Summand) (b c : Bool) → (s.point == t.point) ≡ c → coefficient_at p rest ≡ part_at p s +ℤ coefficient_at p ts
    → coefficient_at p (cond b (put_before s (t ∷ ts)) (cond c (put_before (record { point = t.point; coefficient = s.coefficient +ℤ t.coefficient }) ts) (t ∷ rest))) ≡ part_at p s +ℤ coefficient_at p (t ∷ ts)
with_by p s t ts rest true c e h = coefficient-put p s (t ∷ ts)
with_by p s t ts rest false true e h =
    let same : s.point ≡ t.point = grind (arith, nat_tests) in
    coefficient-put p (record { point = t.point; coefficient = s.coefficient +ℤ t.coefficient }) ts
    ∙ part_sum (t.point == p) s.coefficient t.coefficient (coefficient_at p ts)
    ∙ ap (λ (k : ℕ). cond (k == p) s.coefficient (pos 0) +ℤ (part_at p t +ℤ coefficient_at p ts)) (sym same)
with_by p s t ts rest false false e h = omega (arith, ints, h)

pub coefficient-with : (p : ℕ) (s : Summand) (ts : List Summand) → coefficient_at p (with_summand s ts) ≡ part_at p s +ℤ coefficient_at p ts
coefficient-with p s [] = coefficient-put p s []
coefficient-with p s (t ∷ ts) = with_by p s t ts (with_summand s ts) (nat_lt s.point t.point) (s.point == t.point) refl (coefficient-with p s ts)

pub coefficient-collected : (p : ℕ) (xs : List Summand) → coefficient_at p (collected xs) ≡ coefficient_at p xs
coefficient-collected p [] = refl
coefficient-collected p (s ∷ rest) = coefficient-with p s (collected rest) ∙ ap (λ (z : ℤ). part_at p s +ℤ z) (coefficient-collected p rest)

pub coefficient-append : (p : ℕ) (xs ys : List Summand) → coefficient_at p (xs ++ ys) ≡ coefficient_at p xs +ℤ coefficient_at p ys
coefficient-append p [] ys = sym (+ℤ_idl (coefficient_at p ys))
coefficient-append p (x ∷ xs) ys =
    let rest = coefficient-append p xs ys in
    omega (arith, ints, rest)

-- above a list's time points there is nothing
part_other : (p : ℕ) (s : Summand) → s.point ≢ p → part_at p s ≡ pos 0
part_other p s ne = grind (arith, nat_tests)

part_same : (s : Summand) → part_at s.point s ≡ s.coefficient
part_same s = grind (arith, nat_tests)

pub ascend_weaker : (m n : ℕ) (xs : List Summand) → m < n → AscendAbove n xs → AscendAbove m xs
ascend_weaker m n [] lt a = tt
ascend_weaker m n (x ∷ xs) lt a = (omega arith, a.1, a.2)

pub coefficient-below : (p : ℕ) (xs : List Summand) → AscendAbove p xs → coefficient_at p xs ≡ pos 0
coefficient-below p [] a = refl
coefficient-below p (x ∷ xs) a =
    let here : part_at p x ≡ pos 0 = part_other p x (omega arith) in
    let rest : coefficient_at p xs ≡ pos 0 = coefficient-below p xs (ascend_weaker p x.point xs a.0 a.2) in
    omega (arith, ints, here, rest)

pub coefficient-head : (x : Summand) (xs : List Summand) → AscendAbove x.point xs → coefficient_at x.point (x ∷ xs) ≡ x.coefficient
coefficient-head x xs a =
    let here = part_same x in
    let rest = coefficient-below x.point xs a in
    omega (arith, ints, here, rest)

-- two lists that ascend, and that have the same coefficients, are one
apart : (x y : Summand) (xs ys : List Summand) → x.coefficient ≢ pos 0 → AscendAbove x.point xs → AscendAbove y.point ys → y.coefficient ≢ pos 0
    → coefficient_at x.point (x ∷ xs) ≡ coefficient_at x.point (y ∷ ys) → ¬ (x.point < y.point)
apart x y xs ys some a b other e lt = some (sym (coefficient-head x xs a) ∙ e ∙ coefficient-below x.point (y ∷ ys) (lt, other, b))

same_tails : (p : ℕ) (x y : Summand) (xs ys : List Summand) → x ≡ y → coefficient_at p (x ∷ xs) ≡ coefficient_at p (y ∷ ys) → coefficient_at p xs ≡ coefficient_at p ys
same_tails p x y xs ys same e =
    let part : part_at p x ≡ part_at p y = ap (part_at p) same in
    omega (arith, ints, part, e)

same_summand : (x y : Summand) → x.point ≡ y.point → x.coefficient ≡ y.coefficient → x ≡ y
same_summand x y points coefficients =
    ap (λ (k : ℕ). summand k x.coefficient) points ∙ ap (λ (c : ℤ). summand y.point c) coefficients

pub same_by_coefficients : (m : ℕ) (xs ys : List Summand) → AscendAbove m xs → AscendAbove m ys → ((p : ℕ) → coefficient_at p xs ≡ coefficient_at p ys) → xs ≡ ys
same_by_coefficients m [] [] a b e = refl
same_by_coefficients m [] (y ∷ ys) a b e = absurd (b.1 (sym (coefficient-head y ys b.2) ∙ sym (e y.point)))
same_by_coefficients m (x ∷ xs) [] a b e = absurd (a.1 (sym (coefficient-head x xs a.2) ∙ e x.point))
same_by_coefficients m (x ∷ xs) (y ∷ ys) a b e = elim (cases_lt x.point y.point) [
  | inl lt ↦ absurd (apart x y xs ys a.1 a.2 b.2 b.1 (e x.point) lt)
  | inr ge ↦ elim (cases_lt y.point x.point) [
    | inl lt ↦ absurd (apart y x ys xs b.1 b.2 a.2 a.1 (sym (e y.point)) lt)
    | inr le ↦
        let points : x.point ≡ y.point = omega arith in
        let at : coefficient_at x.point (y ∷ ys) ≡ y.coefficient = ap (λ (k : ℕ). coefficient_at k (y ∷ ys)) points ∙ coefficient-head y ys b.2 in
        let coefficients : x.coefficient ≡ y.coefficient = sym (coefficient-head x xs a.2) ∙ e x.point ∙ at in
        let same : x ≡ y = same_summand x y points coefficients in
        let above : AscendAbove x.point ys = subst (λ (k : ℕ). AscendAbove k ys) (sym points) b.2 in
        let tails : xs ≡ ys = same_by_coefficients x.point xs ys a.2 above (λ p. same_tails p x y xs ys same (e p)) in
        cc
  ]
]

-- what lists are put together of, in order
put_ascends : (m : ℕ) (s : Summand) (rest : List Summand) (b : Bool) → int_eq s.coefficient (pos 0) ≡ b → m < s.point → AscendAbove s.point rest → AscendAbove m (cond b rest (s ∷ rest))
put_ascends m s rest true e lt a = ascend_weaker m s.point rest lt a
put_ascends m s rest false e lt a = (lt, not_from_Decides (int_eq s.coefficient (pos 0)) (Decides-int_eq s.coefficient (pos 0)) e, a)

pub ascend-put : (m : ℕ) (s : Summand) (rest : List Summand) → m < s.point → AscendAbove s.point rest → AscendAbove m (put_before s rest)
ascend-put m s rest lt a = put_ascends m s rest (int_eq s.coefficient (pos 0)) refl lt a

with_ascends : (m : ℕ) (s t : Summand) (ts rest : List Summand) (b c : Bool) → nat_lt s.point t.point ≡ b → (s.point == t.point) ≡ c → m < s.point → AscendAbove m (t ∷ ts) → (t.point < s.point → AscendAbove t.point rest)
    → AscendAbove m (cond b (put_before s (t ∷ ts)) (cond c (put_before (record { point = t.point; coefficient = s.coefficient +ℤ t.coefficient }) ts) (t ∷ rest)))
with_ascends m s t ts rest true c e f lt a h =
    let less : s.point < t.point = grind (arith, nat_tests) in
    ascend-put m s (t ∷ ts) lt (less, a.1, a.2)
with_ascends m s t ts rest false true e f lt a h = ascend-put m (record { point = t.point; coefficient = s.coefficient +ℤ t.coefficient }) ts a.0 a.2
with_ascends m s t ts rest false false e f lt a h =
    let more : t.point < s.point = grind (arith, nat_tests) in
    (a.0, a.1, h more)

pub ascend-with : (m : ℕ) (s : Summand) (ts : List Summand) → m < s.point → AscendAbove m ts → AscendAbove m (with_summand s ts)
ascend-with m s [] lt a = ascend-put m s [] lt tt
ascend-with m s (t ∷ ts) lt a = with_ascends m s t ts (with_summand s ts) (nat_lt s.point t.point) (s.point == t.point) refl refl lt a (λ less. ascend-with t.point s ts less a.2)

-- every time point is above this one
abbrev pub AllAbove : ℕ → List Summand → Type 0
AllAbove m [] = Unit {0}
AllAbove m (s ∷ rest) = (m < s.point) × AllAbove m rest

pub ascend-collected : (m : ℕ) (xs : List Summand) → AllAbove m xs → AscendAbove m (collected xs)
ascend-collected m [] a = tt
ascend-collected m (x ∷ xs) a = ascend-with m x (collected xs) a.0 (ascend-collected m xs a.1)
