-- One step of the difference of two lists.
use Rattle.std.proofs.Common.{refl, ap, sym, subst, ◌∙◌, arith, ◌≡◌, ℕ, ◌<◌, List, [], ◌∷◌, ◌++◌, map, Bool, true, false, ◌&&◌, int_le, ℤ, pos, neg_ℤ, ◌-ℤ◌, ◌≤ℤ◌, to_z, of_z, w64}
use Rattle.std.proofs.lemmas.Int.{ints}
use Rattle.idl_linear.specs.Limits.{coefficient_limit, constant_limit, points_limit}
use Rattle.std.specs.List.{AllByRecursion, list_all}
use Rattle.idl_linear.specs.declared.summand.Summand.{Summand}
use Rattle.idl_linear.specs.Linear.{LinearValue, is_within, put_before, with_summand, negative_summand}
use Rattle.idl_linear.specs.Forms.{AscendAbove, IsSummand, IsLinear}
use Rattle.idl_linear.specs.code.Steps.{IsRest, less}
use Rattle.idl_linear.proofs.Coefficients.{summand, AllAbove, ascend_weaker, ascend-collected}
use Rattle.idl_linear.proofs.Collecting.{with-before, with-same, collected-middle, all_above-append, all_above-negatives, all_above-ascending, all_above-weaker}

rest_tail : (s : Summand) (left : List Summand) → IsRest (s ∷ left) → IsRest left
rest_tail s left r = record { ascends = ascend_weaker 0 s.point left r.ascends.0 r.ascends.2; each = r.each.1 }

rest_as : (xs ys : List Summand) → xs ≡ ys → IsRest xs → IsRest ys
rest_as xs ys e r = subst (λ (zs : List Summand). IsRest zs) e r

pub rest_of : (xs : List Summand) (s : Summand) (left : List Summand) → xs ≡ s ∷ left → IsRest xs → IsRest left
rest_of xs s left e r = rest_tail s left (rest_as xs (s ∷ left) e r)

pub above_none : (k : ℕ) (xs : List Summand) → xs ≡ [] → AllAbove k xs
above_none k xs e = subst (λ (zs : List Summand). AllAbove k zs) (sym e) tt

pub above_first : (k : ℕ) (xs : List Summand) (s : Summand) (left : List Summand) → xs ≡ s ∷ left → IsRest xs → k < s.point → AllAbove k xs
above_first k xs s left e r lt =
    let rest = rest_as xs (s ∷ left) e r in
    subst (λ (zs : List Summand). AllAbove k zs) (sym e) (lt, all_above-weaker k s.point left (omega arith) (all_above-ascending s.point left rest.ascends.2))

pub less-above : (k : ℕ) (xs ys : List Summand) → AllAbove k xs → AllAbove k ys → AscendAbove k (less xs ys)
less-above k xs ys a b = ascend-collected k (xs ++ map negative_summand ys) (all_above-append k xs (map negative_summand ys) a (all_above-negatives k ys b))

pub next_left : (xs ys : List Summand) (s : Summand) (left : List Summand) → xs ≡ s ∷ left → IsRest xs → AllAbove s.point ys → less xs ys ≡ put_before s (less left ys)
next_left xs ys s left e r above =
    let rest = rest_as xs (s ∷ left) e r in
    ap (λ (zs : List Summand). less zs ys) e
    ∙ with-before 0 s (less left ys) rest.ascends.0 (less-above s.point left ys (all_above-ascending s.point left rest.ascends.2) above)

less-right : (xs : List Summand) (t : Summand) (right : List Summand) → 0 < t.point → AllAbove 0 xs → AllAbove 0 right → less xs (t ∷ right) ≡ with_summand (negative_summand t) (less xs right)
less-right xs t right lt a b = collected-middle 0 xs (negative_summand t) (map negative_summand right) a lt (all_above-negatives 0 right b)

pub next_right : (xs ys : List Summand) (t : Summand) (right : List Summand) → ys ≡ t ∷ right → IsRest ys → AllAbove t.point xs → less xs ys ≡ put_before (negative_summand t) (less xs right)
next_right xs ys t right e r above =
    let rest = rest_as ys (t ∷ right) e r in
    let over = all_above-ascending t.point right rest.ascends.2 in
    ap (λ (zs : List Summand). less xs zs) e
    ∙ less-right xs t right rest.ascends.0 (all_above-weaker 0 t.point xs (omega arith) above) (all_above-weaker 0 t.point right (omega arith) over)
    ∙ with-before 0 (negative_summand t) (less xs right) rest.ascends.0 (less-above t.point xs right above over)

pub next_both : (xs ys : List Summand) (s t : Summand) (left right : List Summand) → xs ≡ s ∷ left → ys ≡ t ∷ right → IsRest xs → IsRest ys → t.point ≡ s.point
    → less xs ys ≡ put_before (record { point = s.point; coefficient = s.coefficient -ℤ t.coefficient }) (less left right)
next_both xs ys s t left right e f q r same =
    let one = rest_as xs (s ∷ left) e q in
    let two = rest_as ys (t ∷ right) f r in
    let a = all_above-ascending s.point left one.ascends.2 in
    let b = all_above-ascending t.point right two.ascends.2 in
    let c : AllAbove s.point right = subst (λ (k : ℕ). AllAbove k right) same b in
    let ordered = less-above s.point left right a c in
    ap (λ (zs : List Summand). less zs ys) e ∙ ap (λ (zs : List Summand). less (s ∷ left) zs) f
    ∙ ap (with_summand s) (less-right left t right two.ascends.0 (all_above-weaker 0 s.point left (omega arith) a) (all_above-weaker 0 s.point right (omega arith) c))
    ∙ ap (λ (k : ℕ). with_summand s (with_summand (summand k (neg_ℤ t.coefficient)) (less left right))) same
    ∙ with-same 0 s.point s.coefficient (neg_ℤ t.coefficient) (less left right) one.ascends.0 (ascend_weaker 0 s.point (less left right) one.ascends.0 ordered)
    ∙ with-before 0 (summand s.point (s.coefficient -ℤ t.coefficient)) (less left right) one.ascends.0 ordered

-- the coefficients' difference fits its type
pub each_first : (xs : List Summand) (s : Summand) (left : List Summand) → xs ≡ s ∷ left → IsRest xs → IsSummand s
each_first xs s left e r = (rest_as xs (s ∷ left) e r).each.0

-- what is within a limit
pub both_true : (b c : Bool) → (b && c) ≡ true → (b ≡ true) × (c ≡ true)
both_true true true h = (refl, refl)
both_true true false h = absurd cc
both_true false c h = absurd cc

pub within_low : (limit : ℕ) (n : ℤ) → is_within limit n ≡ true → neg_ℤ (pos limit) ≤ℤ n
within_low limit n h =
    let low = (both_true (int_le (neg_ℤ (pos limit)) n) (int_le n (pos limit)) h).0 in
    grind (arith, ints, low)

pub within_high : (limit : ℕ) (n : ℤ) → is_within limit n ≡ true → n ≤ℤ pos limit
within_high limit n h =
    let high = (both_true (int_le (neg_ℤ (pos limit)) n) (int_le n (pos limit)) h).1 in
    grind (arith, ints, high)

pub difference_is : (s t : Summand) → IsSummand s → IsSummand t → to_z w64 (of_z w64 (to_z w64 (of_z w64 s.coefficient) -ℤ to_z w64 (of_z w64 t.coefficient))) ≡ s.coefficient -ℤ t.coefficient
difference_is s t one two =
    let a = within_low coefficient_limit s.coefficient one.limited in
    let b = within_high coefficient_limit s.coefficient one.limited in
    let c = within_low coefficient_limit t.coefficient two.limited in
    let d = within_high coefficient_limit t.coefficient two.limited in
    omega (arith, ints, a, b, c, d)

each_of : (m : ℕ) (xs : List Summand) → AscendAbove m xs → AllByRecursion (λ (s : Summand). s.point < points_limit) xs
    → list_all (λ (s : Summand). is_within coefficient_limit s.coefficient) xs ≡ true → AllByRecursion IsSummand xs
each_of m [] a over within = tt
each_of m (x ∷ xs) a over within =
    let parts = both_true (is_within coefficient_limit x.coefficient) (list_all (λ (s : Summand). is_within coefficient_limit s.coefficient) xs) within in
    (record { above = omega arith; below = over.0; limited = parts.0 }, each_of x.point xs a.2 over.1 parts.1)

-- a linear term's summands
pub rest_from_linear : (l : LinearValue) → IsLinear l → IsRest l.summands
rest_from_linear l h =
    let limits = both_true (list_all (λ (s : Summand). is_within coefficient_limit s.coefficient) l.summands) (is_within constant_limit l.constant) h.limited in
    record { ascends = h.ascends; each = each_of 0 l.summands h.ascends h.over limits.0 }
