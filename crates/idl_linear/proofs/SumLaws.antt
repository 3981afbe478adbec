-- Laws of sums of linear terms. A linear term is known by its coefficients and its constant.
use Rattle.std.proofs.Common.{refl, ap, sym, subst, ◌∙◌, arith, ◌≡◌, ◌≢◌, ℕ, ◌<◌, ◌≤◌, ◌+◌, ◌==◌, List, [], ◌∷◌, ◌++◌, map, Bool, true, false, cond, ◌&&◌, ℤ, pos, neg_ℤ, ◌+ℤ◌, ◌≤ℤ◌, append-nil}
use Rattle.std.proofs.lemmas.Bool.Decides.{nat_tests}
use Rattle.std.proofs.lemmas.Int.{ints}
use Rattle.std.specs.List.{AllByRecursion, list_all}
use Rattle.idl_linear.specs.declared.summand.Summand.{Summand}
use Rattle.idl_linear.specs.Limits.{coefficient_limit, constant_limit, points_limit}
use Rattle.idl_linear.specs.Linear.{LinearValue, collected, summands_of, constants_of, sum_of, negative_summand, negative_of, number_alone, is_within, is_limited}
use Rattle.idl_linear.specs.Forms.{AscendAbove, IsLinear}
use Rattle.idl_linear.specs.code.Bounded.{IsOver, IsBounded}
use Rattle.idl_linear.specs.code.Trees.{part_at, coefficient_at, AllWithin}
use Rattle.idl_linear.proofs.Coefficients.{AllAbove, coefficient-append, coefficient-collected, coefficient-below, coefficient-head, ascend_weaker, same_by_coefficients, ascend-collected}
use Rattle.idl_linear.proofs.Collecting.{all_above-append, all_above-negatives, all_above-ascending}
use Rattle.idl_linear.proofs.Greatest.{all_within-limited, all_within-negatives, all_within-wider, limited_from_within, within-wider}
use Rattle.idl_linear.proofs.Merging.{both_true, within_low, within_high}
use Rattle.idl_linear.proofs.Parts.{all-join}
use Rattle.idl_linear.proofs.Sorting.{points-collected}
use Rattle.idl_linear.proofs.Summing.{is_within_by}
use Rattle.idl_linear.proofs.Totals.{summands-append, constants-append}

pub over_linear : (l : LinearValue) → IsLinear l → IsOver l
over_linear l h = record { ascends = h.ascends; points = h.over }

abbrev pub sum2 : LinearValue → LinearValue → LinearValue
sum2 a b = sum_of (a ∷ b ∷ [])

abbrev linear : List Summand → ℤ → LinearValue
linear summands constant = record { summands = summands; constant = constant }

-- the coefficient of a time point
abbrev pub at : ℕ → LinearValue → ℤ
at p l = coefficient_at p l.summands

pub same_linear : (a b : LinearValue) → AscendAbove 0 a.summands → AscendAbove 0 b.summands → ((p : ℕ) → at p a ≡ at p b) → a.constant ≡ b.constant → a ≡ b
same_linear a b f g coefficients constants =
    ap (λ (l : List Summand). linear l a.constant) (same_by_coefficients 0 a.summands b.summands f g coefficients) ∙ ap (λ (z : ℤ). linear b.summands z) constants

-- ---- sums of any number of terms

pub above_all : (ls : List LinearValue) → AllByRecursion IsOver ls → AllAbove 0 (summands_of ls)
above_all [] h = tt
above_all (l ∷ ls) h = all_above-append 0 l.summands (summands_of ls) (all_above-ascending 0 l.summands h.0.ascends) (above_all ls h.1)

points_all : (ls : List LinearValue) → AllByRecursion IsOver ls → AllByRecursion (λ (s : Summand). s.point < points_limit) (summands_of ls)
points_all [] h = tt
points_all (l ∷ ls) h = all-join (λ (s : Summand). s.point < points_limit) l.summands (summands_of ls) h.0.points (points_all ls h.1)

pub at_sum : (p : ℕ) (ls : List LinearValue) → at p (sum_of ls) ≡ coefficient_at p (summands_of ls)
unfolding sum_of
at_sum p ls = coefficient-collected p (summands_of ls)

pub constant_sum : (ls : List LinearValue) → (sum_of ls).constant ≡ constants_of ls
unfolding sum_of
constant_sum ls = refl

pub over_sum : (ls : List LinearValue) → AllByRecursion IsOver ls → IsOver (sum_of ls)
unfolding sum_of
over_sum ls h = record {
  ascends = ascend-collected 0 (summands_of ls) (above_all ls h);
  points = points-collected (λ (p : ℕ). p < points_limit) (summands_of ls) (points_all ls h);
}

-- ---- sums of two

pub at_pair : (p : ℕ) (a b : LinearValue) → at p (sum2 a b) ≡ at p a +ℤ at p b
at_pair p a b =
    let whole = at_sum p (a ∷ b ∷ []) in
    let first = coefficient-append p a.summands (b.summands ++ []) in
    let second = coefficient-append p b.summands [] in
    omega (arith, ints, whole, first, second)

pub constant_pair : (a b : LinearValue) → (sum2 a b).constant ≡ a.constant +ℤ b.constant
constant_pair a b =
    let whole = constant_sum (a ∷ b ∷ []) in
    omega (arith, ints, whole)

pub over_pair : (a b : LinearValue) → IsOver a → IsOver b → IsOver (sum2 a b)
over_pair a b f g = over_sum (a ∷ b ∷ []) (f, (g, tt))

pub pair_assoc : (a b c : LinearValue) → IsOver a → IsOver b → IsOver c → sum2 (sum2 a b) c ≡ sum2 a (sum2 b c)
pair_assoc a b c f g h =
    same_linear (sum2 (sum2 a b) c) (sum2 a (sum2 b c)) (over_pair (sum2 a b) c (over_pair a b f g) h).ascends (over_pair a (sum2 b c) f (over_pair b c g h)).ascends
    (λ p.
    let u = at_pair p (sum2 a b) c in
    let v = at_pair p a b in
    let w = at_pair p a (sum2 b c) in
    let x = at_pair p b c in
    omega (arith, ints, u, v, w, x))
    (let u = constant_pair (sum2 a b) c in
    let v = constant_pair a b in
    let w = constant_pair a (sum2 b c) in
    let x = constant_pair b c in
    omega (arith, ints, u, v, w, x))

pub pair_swapped : (a b c : LinearValue) → IsOver a → IsOver b → IsOver c → sum2 (sum2 a b) c ≡ sum2 (sum2 a c) b
pair_swapped a b c f g h =
    same_linear (sum2 (sum2 a b) c) (sum2 (sum2 a c) b) (over_pair (sum2 a b) c (over_pair a b f g) h).ascends (over_pair (sum2 a c) b (over_pair a c f h) g).ascends
    (λ p.
    let u = at_pair p (sum2 a b) c in
    let v = at_pair p a b in
    let w = at_pair p (sum2 a c) b in
    let x = at_pair p a c in
    omega (arith, ints, u, v, w, x))
    (let u = constant_pair (sum2 a b) c in
    let v = constant_pair a b in
    let w = constant_pair (sum2 a c) b in
    let x = constant_pair a c in
    omega (arith, ints, u, v, w, x))

-- nothing more
zero_over : IsOver (sum_of [])
zero_over = over_sum [] tt

pub pair_zero : (a : LinearValue) → IsOver a → sum2 (sum_of []) a ≡ a
pair_zero a f =
    same_linear (sum2 (sum_of []) a) a (over_pair (sum_of []) a zero_over f).ascends f.ascends
    (λ p.
    let u = at_pair p (sum_of []) a in
    let v = at_sum p [] in
    omega (arith, ints, u, v))
    (let u = constant_pair (sum_of []) a in
    let v = constant_sum [] in
    omega (arith, ints, u, v))

-- one more term, behind others or in their middle
pub pair_more : (ls ms : List LinearValue) (l : LinearValue) → AllByRecursion IsOver (ls ++ ms) → AllByRecursion IsOver (ls ++ l ∷ ms) → IsOver l → sum_of (ls ++ l ∷ ms) ≡ sum2 (sum_of (ls ++ ms)) l
pair_more ls ms l f g h =
    same_linear (sum_of (ls ++ l ∷ ms)) (sum2 (sum_of (ls ++ ms)) l) (over_sum (ls ++ l ∷ ms) g).ascends (over_pair (sum_of (ls ++ ms)) l (over_sum (ls ++ ms) f) h).ascends
    (λ p.
    let u = at_sum p (ls ++ l ∷ ms) in
    let v = ap (coefficient_at p) (summands-append ls (l ∷ ms)) in
    let w = coefficient-append p (summands_of ls) (l.summands ++ summands_of ms) in
    let x = coefficient-append p l.summands (summands_of ms) in
    let y = at_pair p (sum_of (ls ++ ms)) l in
    let z = at_sum p (ls ++ ms) in
    let t = ap (coefficient_at p) (summands-append ls ms) in
    let r = coefficient-append p (summands_of ls) (summands_of ms) in
    omega (arith, ints, u, v, w, x, y, z, t, r))
    (let u = constant_sum (ls ++ l ∷ ms) in
    let v = constants-append ls (l ∷ ms) in
    let y = constant_pair (sum_of (ls ++ ms)) l in
    let z = constant_sum (ls ++ ms) in
    let t = constants-append ls ms in
    omega (arith, ints, u, v, y, z, t))

-- ---- negatives

part_negative : (b : Bool) (c : ℤ) → cond b (neg_ℤ c) (pos 0) ≡ neg_ℤ (cond b c (pos 0))
part_negative true c = refl
part_negative false c = refl

pub at_negatives : (p : ℕ) (xs : List Summand) → coefficient_at p (map negative_summand xs) ≡ neg_ℤ (coefficient_at p xs)
at_negatives p [] = refl
at_negatives p (x ∷ xs) =
    let here = part_negative (x.point == p) x.coefficient in
    let rest = at_negatives p xs in
    omega (arith, ints, here, rest)

not_zero : (c : ℤ) → c ≢ pos 0 → neg_ℤ c ≢ pos 0
not_zero c h e = h (omega (arith, ints, e))

ascend_negatives : (m : ℕ) (xs : List Summand) → AscendAbove m xs → AscendAbove m (map negative_summand xs)
ascend_negatives m [] h = tt
ascend_negatives m (x ∷ xs) h = (h.0, not_zero x.coefficient h.1, ascend_negatives x.point xs h.2)

points_negatives : (xs : List Summand) → AllByRecursion (λ (s : Summand). s.point < points_limit) xs → AllByRecursion (λ (s : Summand). s.point < points_limit) (map negative_summand xs)
points_negatives [] h = tt
points_negatives (x ∷ xs) h = (h.0, points_negatives xs h.1)

pub over_negative : (l : LinearValue) → IsOver l → IsOver (negative_of l)
over_negative l h = record { ascends = ascend_negatives 0 l.summands h.ascends; points = points_negatives l.summands h.points }

pub negative_pair : (a b : LinearValue) → IsOver a → IsOver b → negative_of (sum2 a b) ≡ sum2 (negative_of a) (negative_of b)
negative_pair a b f g =
    same_linear (negative_of (sum2 a b)) (sum2 (negative_of a) (negative_of b)) (over_negative (sum2 a b) (over_pair a b f g)).ascends (over_pair (negative_of a) (negative_of b) (over_negative a f) (over_negative b g)).ascends
    (λ p.
    let u = at_negatives p (sum2 a b).summands in
    let v = at_pair p a b in
    let w = at_pair p (negative_of a) (negative_of b) in
    let x = at_negatives p a.summands in
    let y = at_negatives p b.summands in
    omega (arith, ints, u, v, w, x, y))
    (let u = constant_pair a b in
    let w = constant_pair (negative_of a) (negative_of b) in
    omega (arith, ints, u, w))

negative_twice_each : (xs : List Summand) → map negative_summand (map negative_summand xs) ≡ xs
negative_twice_each [] = refl
negative_twice_each (x ∷ xs) =
    let same : neg_ℤ (neg_ℤ x.coefficient) ≡ x.coefficient = omega (arith, ints) in
    ap (λ (c : ℤ). record { point = x.point; coefficient = c } ∷ map negative_summand (map negative_summand xs)) same ∙ ap (λ (l : List Summand). x ∷ l) (negative_twice_each xs)

pub negative_twice : (l : LinearValue) → negative_of (negative_of l) ≡ l
negative_twice l =
    let same : neg_ℤ (neg_ℤ l.constant) ≡ l.constant = omega (arith, ints) in
    ap (λ (xs : List Summand). linear xs (neg_ℤ (neg_ℤ l.constant))) (negative_twice_each l.summands) ∙ ap (λ (z : ℤ). linear l.summands z) same

-- ---- bounds

pub bounded_linear : (l : LinearValue) → IsLinear l → IsBounded constant_limit coefficient_limit l
bounded_linear l h =
    let parts = both_true (list_all (λ (s : Summand). is_within coefficient_limit s.coefficient) l.summands) (is_within constant_limit l.constant) h.limited in
    record { over = over_linear l h; constant = parts.1; coefficients = all_within-limited l.summands parts.0 }

both_are : (b c : Bool) → b ≡ true → c ≡ true → (b && c) ≡ true
both_are true c e f = f
both_are false c e f = absurd cc

pub bounded_limited : (m n : ℕ) (l : LinearValue) → m ≤ constant_limit → n ≤ coefficient_limit → IsBounded m n l → is_limited l ≡ true
bounded_limited m n l le few h =
    both_are (list_all (λ (s : Summand). is_within coefficient_limit s.coefficient) l.summands) (is_within constant_limit l.constant)
    (limited_from_within l.summands (all_within-wider n coefficient_limit l.summands few h.coefficients)) (within-wider m constant_limit l.constant le h.constant)

pub linear_bounded : (m n : ℕ) (l : LinearValue) → m ≤ constant_limit → n ≤ coefficient_limit → IsBounded m n l → IsLinear l
linear_bounded m n l le few h = record { ascends = h.over.ascends; over = h.over.points; limited = bounded_limited m n l le few h }

pub bounded_wider : (m n i j : ℕ) (l : LinearValue) → m ≤ i → n ≤ j → IsBounded m n l → IsBounded i j l
bounded_wider m n i j l le few h = record {
  over = h.over;
  constant = within-wider m i l.constant le h.constant;
  coefficients = all_within-wider n j l.summands few h.coefficients;
}

pub bounded_negative : (m n : ℕ) (l : LinearValue) → IsBounded m n l → IsBounded m n (negative_of l)
bounded_negative m n l h =
    let low = within_low m l.constant h.constant in
    let high = within_high m l.constant h.constant in
    record {
      over = over_negative l h.over;
      constant = is_within_by m (neg_ℤ l.constant) (omega (arith, ints, low, high)) (omega (arith, ints, low, high));
      coefficients = all_within-negatives n l.summands h.coefficients;
    }

-- the coefficient of any time point is within the bound of all
at_by : (n p : ℕ) (x : Summand) (xs : List Summand) (b : Bool) → (x.point == p) ≡ b → AscendAbove x.point xs → is_within n x.coefficient ≡ true → is_within n (coefficient_at p xs) ≡ true → is_within n (coefficient_at p (x ∷ xs)) ≡ true
at_by n p x xs true e a h rest =
    let same : x.point ≡ p = grind (arith, nat_tests) in
    subst (λ (k : ℕ). is_within n (coefficient_at k (x ∷ xs)) ≡ true) same (ap (is_within n) (coefficient-head x xs a) ∙ h)
at_by n p x xs false e a h rest =
    let none : part_at p x ≡ pos 0 = ap (λ (b : Bool). cond b x.coefficient (pos 0)) e in
    let same : coefficient_at p (x ∷ xs) ≡ coefficient_at p xs = omega (arith, ints, none) in
    ap (is_within n) same ∙ rest

pub at_within : (n m p : ℕ) (xs : List Summand) → AscendAbove m xs → AllWithin n xs → is_within n (coefficient_at p xs) ≡ true
at_within n m p [] a h = is_within_by n (pos 0) (omega (arith, ints)) (omega (arith, ints))
at_within n m p (x ∷ xs) a h = at_by n p x xs (x.point == p) refl a.2 h.0 (at_within n x.point p xs a.2 h.1)

-- and the other way
tail_at : (n : ℕ) (x : Summand) (xs : List Summand) (p : ℕ) (b : Bool) → (x.point == p) ≡ b → AscendAbove x.point xs → is_within n (coefficient_at p (x ∷ xs)) ≡ true → is_within n (coefficient_at p xs) ≡ true
tail_at n x xs p true e a h =
    let same : x.point ≡ p = grind (arith, nat_tests) in
    let none : coefficient_at p xs ≡ pos 0 = ap (λ (k : ℕ). coefficient_at k xs) (sym same) ∙ coefficient-below x.point xs a in
    ap (is_within n) none ∙ is_within_by n (pos 0) (omega (arith, ints)) (omega (arith, ints))
tail_at n x xs p false e a h =
    let none : part_at p x ≡ pos 0 = ap (λ (b : Bool). cond b x.coefficient (pos 0)) e in
    let same : coefficient_at p xs ≡ coefficient_at p (x ∷ xs) = omega (arith, ints, none) in
    ap (is_within n) same ∙ h

pub within_by_points : (n m : ℕ) (xs : List Summand) → AscendAbove m xs → ((p : ℕ) → is_within n (coefficient_at p xs) ≡ true) → AllWithin n xs
within_by_points n m [] a h = tt
within_by_points n m (x ∷ xs) a h =
    (ap (is_within n) (sym (coefficient-head x xs a.2)) ∙ h x.point, within_by_points n x.point xs a.2 (λ p. tail_at n x xs p (x.point == p) refl a.2 (h p)))

within_sum : (m n : ℕ) (y z w : ℤ) → w ≡ y +ℤ z → is_within m y ≡ true → is_within n z ≡ true → is_within (m + n) w ≡ true
within_sum m n y z w e f g =
    let low = within_low m y f in
    let high = within_high m y f in
    let lower = within_low n z g in
    let higher = within_high n z g in
    is_within_by (m + n) w (omega (arith, ints, e, low, lower)) (omega (arith, ints, e, high, higher))

pub bounded_pair : (m n i j : ℕ) (a b : LinearValue) → IsBounded m n a → IsBounded i j b → IsBounded (m + i) (n + j) (sum2 a b)
bounded_pair m n i j a b f g =
    let over = over_pair a b f.over g.over in
    record {
      over = over;
      constant = within_sum m i a.constant b.constant (sum2 a b).constant (constant_pair a b) f.constant g.constant;
      coefficients = within_by_points (n + j) 0 (sum2 a b).summands over.ascends
          (λ p. within_sum n j (at p a) (at p b) (at p (sum2 a b)) (at_pair p a b) (at_within n 0 p a.summands f.over.ascends f.coefficients) (at_within j 0 p b.summands g.over.ascends g.coefficients));
    }
