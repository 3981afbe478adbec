-- A sum that is being made, and its end.
use Rattle.std.proofs.Common.{ap, sym, subst, ◌∙◌, arith, ◌≡◌, ℕ, ◌<◌, ◌+◌, ◌^◌, List, [], ◌∷◌, ◌++◌, map, Bool, true, false, cond, ◌&&◌, int_le, ℤ, pos, neg_ℤ, ◌+ℤ◌, ◌-ℤ◌, ◌≤ℤ◌, to_z, of_z, w64, Some, None, IsPermutation}
use Rattle.std.specs.Int.{w128}
use Rattle.std.proofs.lemmas.Int.{ints}
use Rattle.std.specs.List.{AllByRecursion, list_all}
use Rattle.idl_linear.specs.declared.summand.Summand.{Summand}
use Rattle.idl_linear.specs.Limits.{coefficient_limit, constant_limit}
use Rattle.idl_linear.specs.Linear.{LinearValue, collected, negative_summand, is_within, is_limited}
use Rattle.idl_linear.specs.Forms.{IsSummand, IsLinear, SumValue, IsSum}
use Rattle.idl_linear.proofs.Merging.{both_true, within_low, within_high, rest_from_linear}
use Rattle.idl_linear.proofs.Running.{found_is}
use Rattle.idl_linear.proofs.Sorting.{collected-permuted, linear_from_sum}

each-append : (xs ys : List Summand) → AllByRecursion IsSummand xs → AllByRecursion IsSummand ys → AllByRecursion IsSummand (xs ++ ys)
each-append [] ys a b = b
each-append (x ∷ xs) ys a b = (a.0, each-append xs ys a.1 b)

both_kept : (b c : Bool) → b ≡ true → c ≡ true → (b && c) ≡ true
both_kept b c e f = ap (λ (x : Bool). x && c) e ∙ f

-- within a limit by bounds
pub is_within_by : (limit : ℕ) (n : ℤ) → neg_ℤ (pos limit) ≤ℤ n → n ≤ℤ pos limit → is_within limit n ≡ true
is_within_by limit n low high = both_kept (int_le (neg_ℤ (pos limit)) n) (int_le n (pos limit)) (grind (arith, ints)) (grind (arith, ints))

pub within-negative : (limit : ℕ) (n : ℤ) → is_within limit n ≡ true → is_within limit (neg_ℤ n) ≡ true
within-negative limit n h =
    let low = within_low limit n h in
    let high = within_high limit n h in
    is_within_by limit (neg_ℤ n) (omega (arith, ints)) (omega (arith, ints))

pub each-negative : (xs : List Summand) → AllByRecursion IsSummand xs → AllByRecursion IsSummand (map negative_summand xs)
each-negative [] h = tt
each-negative (x ∷ xs) h = (record { above = h.0.above; below = h.0.below; limited = within-negative coefficient_limit x.coefficient h.0.limited }, each-negative xs h.1)

constant_within : (l : LinearValue) → IsLinear l → is_within constant_limit l.constant ≡ true
constant_within l h = (both_true (list_all (λ (s : Summand). is_within coefficient_limit s.coefficient) l.summands) (is_within constant_limit l.constant) h.limited).1

-- one more term, and the negative of one
pub sum_more : (s : SumValue) (l : LinearValue) (items : List Summand) (n : ℤ) → IsSum s → IsLinear l → s.terms + 1 < 2 ^ 64 → items ≡ s.summands ++ l.summands → n ≡ l.constant
    → IsSum (record { summands = items; constant = to_z w128 (of_z w128 (to_z w128 (of_z w128 s.constant) +ℤ to_z w128 (of_z w128 n))); terms = s.terms + 1 })
sum_more s l items n h k few is same =
    let low = within_low constant_limit l.constant (constant_within l k) in
    let high = within_high constant_limit l.constant (constant_within l k) in
    record {
      each = subst (λ (xs : List Summand). AllByRecursion IsSummand xs) (sym is) (each-append s.summands l.summands h.each (rest_from_linear l k).each);
      low = omega (arith, ints, low, high, h.low, h.high, same, few);
      high = omega (arith, ints, low, high, h.low, h.high, same, few);
    }

pub sum_less : (s : SumValue) (l : LinearValue) (items : List Summand) (n : ℤ) → IsSum s → IsLinear l → s.terms + 1 < 2 ^ 64 → items ≡ s.summands ++ map negative_summand l.summands → n ≡ l.constant
    → IsSum (record { summands = items; constant = to_z w128 (of_z w128 (to_z w128 (of_z w128 s.constant) -ℤ to_z w128 (of_z w128 n))); terms = s.terms + 1 })
sum_less s l items n h k few is same =
    let low = within_low constant_limit l.constant (constant_within l k) in
    let high = within_high constant_limit l.constant (constant_within l k) in
    record {
      each = subst (λ (xs : List Summand). AllByRecursion IsSummand xs) (sym is) (each-append s.summands (map negative_summand l.summands) h.each (each-negative l.summands (rest_from_linear l k).each));
      low = omega (arith, ints, low, high, h.low, h.high, same, few);
      high = omega (arith, ints, low, high, h.low, h.high, same, few);
    }

abbrev sum_value : List Summand → ℤ → ℕ → SumValue
sum_value summands constant terms = record { summands = summands; constant = constant; terms = terms }

-- what it then is
pub sum_more_is : (s seen : SumValue) (l : LinearValue) (items : List Summand) (n : ℤ) → s ≡ seen → IsSum s → IsLinear l → s.terms + 1 < 2 ^ 64 → items ≡ s.summands ++ l.summands → n ≡ l.constant
    → ◌≡◌ {A = SumValue} (record { summands = items; constant = to_z w128 (of_z w128 (to_z w128 (of_z w128 s.constant) +ℤ to_z w128 (of_z w128 n))); terms = s.terms + 1 })
    (record { summands = seen.summands ++ l.summands; constant = seen.constant +ℤ l.constant; terms = seen.terms + 1 })
sum_more_is s seen l items n view h k few is same =
    let low = within_low constant_limit l.constant (constant_within l k) in
    let high = within_high constant_limit l.constant (constant_within l k) in
    let number : to_z w128 (of_z w128 (to_z w128 (of_z w128 s.constant) +ℤ to_z w128 (of_z w128 n))) ≡ s.constant +ℤ l.constant = omega (arith, ints, low, high, h.low, h.high, same, few) in
    ap (λ (xs : List Summand). sum_value xs (to_z w128 (of_z w128 (to_z w128 (of_z w128 s.constant) +ℤ to_z w128 (of_z w128 n)))) (s.terms + 1)) is
    ∙ ap (λ (z : ℤ). sum_value (s.summands ++ l.summands) z (s.terms + 1)) number
    ∙ ap (λ (t : SumValue). sum_value (t.summands ++ l.summands) (t.constant +ℤ l.constant) (t.terms + 1)) view

pub sum_less_is : (s seen : SumValue) (l : LinearValue) (items : List Summand) (n : ℤ) → s ≡ seen → IsSum s → IsLinear l → s.terms + 1 < 2 ^ 64 → items ≡ s.summands ++ map negative_summand l.summands → n ≡ l.constant
    → ◌≡◌ {A = SumValue} (record { summands = items; constant = to_z w128 (of_z w128 (to_z w128 (of_z w128 s.constant) -ℤ to_z w128 (of_z w128 n))); terms = s.terms + 1 })
    (record { summands = seen.summands ++ map negative_summand l.summands; constant = seen.constant +ℤ neg_ℤ l.constant; terms = seen.terms + 1 })
sum_less_is s seen l items n view h k few is same =
    let low = within_low constant_limit l.constant (constant_within l k) in
    let high = within_high constant_limit l.constant (constant_within l k) in
    let number : to_z w128 (of_z w128 (to_z w128 (of_z w128 s.constant) -ℤ to_z w128 (of_z w128 n))) ≡ s.constant +ℤ neg_ℤ l.constant = omega (arith, ints, low, high, h.low, h.high, same, few) in
    ap (λ (xs : List Summand). sum_value xs (to_z w128 (of_z w128 (to_z w128 (of_z w128 s.constant) -ℤ to_z w128 (of_z w128 n)))) (s.terms + 1)) is
    ∙ ap (λ (z : ℤ). sum_value (s.summands ++ map negative_summand l.summands) z (s.terms + 1)) number
    ∙ ap (λ (t : SumValue). sum_value (t.summands ++ map negative_summand l.summands) (t.constant +ℤ neg_ℤ l.constant) (t.terms + 1)) view

abbrev linear : List Summand → ℤ → LinearValue
linear summands constant = record { summands = summands; constant = constant }

-- the sum is a linear term, or beyond its limits
module _ (xs ys : List Summand) (constant : ℤ) (h : IsPermutation xs ys) (each : AllByRecursion IsSummand xs) where
  same : collected ys ≡ collected xs
  same = collected-permuted xs ys h each

  pub finish_refused : list_all (λ (s : Summand). is_within coefficient_limit s.coefficient) (collected ys) ≡ false → is_limited (record { summands = collected xs; constant = constant }) ≡ false
  finish_refused e = ap (λ (l : List Summand). is_limited (record { summands = l; constant = constant })) (sym same) ∙ ap (λ (b : Bool). b && is_within constant_limit constant) e

  module _ (limited : list_all (λ (s : Summand). is_within coefficient_limit s.coefficient) (collected ys) ≡ true) (items : List Summand) (is : items ≡ collected ys) (n : ℤ) (f : Some n ≡ cond (is_within constant_limit constant) (Some constant) None) where
    number : to_z w64 (of_z w64 n) ≡ constant
    number =
        let found = found_is constant_limit constant n f in
        let low = within_low constant_limit n found.1 in
        let high = within_high constant_limit n found.1 in
        omega (arith, ints, low, high, found.0)

    pub finish_ok : ◌≡◌ {A = LinearValue} (record { summands = items; constant = to_z w64 (of_z w64 n) }) (record { summands = collected xs; constant = constant })
    finish_ok =
        ap (λ (l : List Summand). linear l (to_z w64 (of_z w64 n))) (is ∙ same) ∙ ap (λ (k : ℤ). linear (collected xs) k) number

    pub finish_limited : is_limited (record { summands = collected xs; constant = constant }) ≡ true
    finish_limited =
        let found = found_is constant_limit constant n f in
        both_kept (list_all (λ (s : Summand). is_within coefficient_limit s.coefficient) (collected xs)) (is_within constant_limit constant)
        (ap (λ (l : List Summand). list_all (λ (s : Summand). is_within coefficient_limit s.coefficient) l) (sym same) ∙ limited)
        (ap (is_within constant_limit) (sym found.0) ∙ found.1)

    pub finish_linear : IsLinear (record { summands = items; constant = to_z w64 (of_z w64 n) })
    finish_linear = subst (λ (l : LinearValue). IsLinear l) (sym finish_ok) (linear_from_sum xs constant each finish_limited)
