-- Bounds on coefficients, and what sums and negatives make of them.
use Rattle.std.proofs.Common.{refl, ap, sym, subst, ◌∙◌, arith, ◌≡◌, ℕ, ◌<◌, ◌≤◌, ◌+◌, ◌==◌, min, max, List, [], ◌∷◌, ◌++◌, length, map, take, get_or, Bool, true, false, cond, ◌&&◌, int_le, ℤ, pos, negsuc, neg_ℤ, ◌+ℤ◌, ◌≤ℤ◌, unsigned_abs}
use Rattle.std.proofs.lemmas.Int.{ints}
use Rattle.std.proofs.lemmas.List.{take_more}
use Rattle.std.specs.List.{AllByRecursion, list_all}
use Rattle.idl_linear.specs.declared.summand.Summand.{Summand}
use Rattle.idl_linear.specs.Limits.{coefficient_limit}
use Rattle.idl_linear.specs.Linear.{is_within, negative_summand}
use Rattle.idl_linear.specs.Forms.{AscendAbove, IsSummand}
use Rattle.idl_linear.specs.code.Trees.{AllWithin}
use Rattle.idl_linear.proofs.Merging.{both_true, within_low, within_high}
use Rattle.idl_linear.proofs.Parts.{all-join}
use Rattle.idl_linear.proofs.Summing.{is_within_by}

pub within-wider : (m n : ℕ) (z : ℤ) → m ≤ n → is_within m z ≡ true → is_within n z ≡ true
within-wider m n z le h =
    let low = within_low m z h in
    let high = within_high m z h in
    is_within_by n z (omega (arith, ints, low, high, le)) (omega (arith, ints, low, high, le))

pub within-absolute : (z : ℤ) → is_within (unsigned_abs z) z ≡ true
within-absolute (pos n) = is_within_by n (pos n) (omega (arith, ints)) (omega (arith, ints))
within-absolute (negsuc n) = is_within_by (unsigned_abs (negsuc n)) (negsuc n) (omega (arith, ints)) (omega (arith, ints))

pub all_within-wider : (m n : ℕ) (xs : List Summand) → m ≤ n → AllWithin m xs → AllWithin n xs
all_within-wider m n [] le h = tt
all_within-wider m n (x ∷ xs) le h = (within-wider m n x.coefficient le h.0, all_within-wider m n xs le h.1)

pub all_within-join : (n : ℕ) (xs ys : List Summand) → AllWithin n xs → AllWithin n ys → AllWithin n (xs ++ ys)
all_within-join n xs ys a b = all-join (λ (s : Summand). is_within n s.coefficient ≡ true) xs ys a b

pub all_within-both : (m n k : ℕ) (xs ys : List Summand) → k ≡ max m n → AllWithin m xs → AllWithin n ys → AllWithin k (xs ++ ys)
all_within-both m n k xs ys e a b =
    all_within-join k xs ys (all_within-wider m k xs (omega (arith, e)) a) (all_within-wider n k ys (omega (arith, e)) b)

pub all_within-more : (xs : List Summand) (i m n : ℕ) (d : Summand) → i < length xs → AllWithin m (take i xs) → n ≡ max m (unsigned_abs (get_or xs i d).coefficient) → AllWithin n (take (i + 1) xs)
all_within-more xs i m n d lt h e =
    let s = get_or xs i d in
    let one : AllWithin (unsigned_abs s.coefficient) (s ∷ []) = (within-absolute s.coefficient, tt) in
    subst (λ (l : List Summand). AllWithin n l) (sym (take_more xs i d lt)) (all_within-both m (unsigned_abs s.coefficient) n (take i xs) (s ∷ []) e h one)

pub all_within-negatives : (n : ℕ) (xs : List Summand) → AllWithin n xs → AllWithin n (map negative_summand xs)
all_within-negatives n [] h = tt
all_within-negatives n (x ∷ xs) h =
    let low = within_low n x.coefficient h.0 in
    let high = within_high n x.coefficient h.0 in
    (is_within_by n (neg_ℤ x.coefficient) (omega (arith, ints, low, high)) (omega (arith, ints, low, high)), all_within-negatives n xs h.1)

pub all_within-signed : (negated : Bool) (n : ℕ) (xs : List Summand) → AllWithin n xs → AllWithin n (cond negated (map negative_summand xs) xs)
all_within-signed true n xs h = all_within-negatives n xs h
all_within-signed false n xs h = h

-- the least of two bounds
pub all_within-least : (m n k : ℕ) (xs : List Summand) → k ≡ min m n → AllWithin m xs → AllWithin n xs → AllWithin k xs
all_within-least m n k [] e a b = tt
all_within-least m n k (x ∷ xs) e a b =
    let low = within_low m x.coefficient a.0 in
    let high = within_high m x.coefficient a.0 in
    let lower = within_low n x.coefficient b.0 in
    let higher = within_high n x.coefficient b.0 in
    (is_within_by k x.coefficient (omega (arith, ints, e, low, high, lower, higher)) (omega (arith, ints, e, low, high, lower, higher)), all_within-least m n k xs e a.1 b.1)

pub all_within-limited : (xs : List Summand) → list_all (λ (s : Summand). is_within coefficient_limit s.coefficient) xs ≡ true → AllWithin coefficient_limit xs
all_within-limited [] h = tt
all_within-limited (x ∷ xs) h =
    let parts = both_true (is_within coefficient_limit x.coefficient) (list_all (λ (s : Summand). is_within coefficient_limit s.coefficient) xs) h in
    (parts.0, all_within-limited xs parts.1)

pub limited_from_within : (xs : List Summand) → AllWithin coefficient_limit xs → list_all (λ (s : Summand). is_within coefficient_limit s.coefficient) xs ≡ true
limited_from_within [] h = refl
limited_from_within (x ∷ xs) h = ap (λ (b : Bool). b && list_all (λ (s : Summand). is_within coefficient_limit s.coefficient) xs) h.0 ∙ limited_from_within xs h.1
