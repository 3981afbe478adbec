-- How many choices there are.
use Rattle.std.proofs.Common.{refl, ap, sym, arith, ◌∙◌, ◌≡◌, ◌<◌, ◌≤◌, ◌+◌, ◌*◌, ◌-◌, ◌^◌, min, ℕ, zero, suc, List, [], ◌∷◌, length, map, drop, get_or, Bool, true, false, Bor}
use Rattle.std.specs.Prelude.{nat_le}
use Rattle.std.proofs.Math.Nat.{mul-suc, suc-mul}
use Rattle.std.proofs.lemmas.Bool.Decides.{nat_tests}
use Rattle.std.proofs.lemmas.List.{at_drop_more, length-append, length-map}
use Rattle.idl_cases.specs.Guarded.{CaseValue}
use Rattle.idl_cases.specs.Limits.{cases_limit}
use Rattle.idl_apply.specs.Choices.{Choice, with_case, with_term, choices_from, count_from, are_few}
use Rattle.idl_apply.specs.Comparing.{case_pairs}
use Rattle.idl_apply.proofs.Arguments.{seen}

-- ---- how many choices there are

over_limit : (n : ℕ) → cases_limit < n → are_few n ≡ false
over_limit n h = grind (arith, nat_tests)

no_times : (n m k : ℕ) → k ≡ 0 → n * k ≡ m * k
no_times n m k e = ap (λ (j : ℕ). n * j) e ∙ omega arith ∙ sym (ap (λ (j : ℕ). m * j) e)

at_least_once : (n k j : ℕ) → k ≡ suc j → n ≤ n * k
at_least_once n k j e = omega (arith, ap (λ (i : ℕ). n * i) e, mul-suc n j)

times_over : (n m j : ℕ) (terms : List (List CaseValue)) → cases_limit < n → cases_limit < m → ((a b : ℕ) → cases_limit < a → cases_limit < b → are_few (count_from a terms) ≡ are_few (count_from b terms)) → (k : ℕ) → k ≡ j
    → are_few (count_from (n * k) terms) ≡ are_few (count_from (m * k) terms)
times_over n m zero terms h i same k e = ap (λ (p : ℕ). are_few (count_from p terms)) (no_times n m k e)
times_over n m (suc j) terms h i same k e =
    let one = at_least_once n k j e in
    let two = at_least_once m k j e in
    same (n * k) (m * k) (omega (arith, one, h)) (omega (arith, two, i))

-- counts beyond the limit stay so, or both become none
both_over : (n m : ℕ) (terms : List (List CaseValue)) → cases_limit < n → cases_limit < m → are_few (count_from n terms) ≡ are_few (count_from m terms)
both_over n m [] h i = over_limit n h ∙ sym (over_limit m i)
both_over n m (cases ∷ terms) h i = times_over n m (length cases) terms h i (λ a b p q. both_over a b terms p q) (length cases) refl

capped_by : (p c : ℕ) (terms : List (List CaseValue)) (b : Bool) → nat_le p cases_limit ≡ b → c ≡ min (min p (2 ^ 64 - 1)) (cases_limit + 1) → are_few (count_from p terms) ≡ are_few (count_from c terms)
capped_by p c terms true e f =
    let small : p ≤ cases_limit = grind (arith, nat_tests) in
    let same : p ≡ c = omega (arith, f, small) in
    ap (λ (n : ℕ). are_few (count_from n terms)) same
capped_by p c terms false e f =
    let large : cases_limit < p = grind (arith, nat_tests) in
    both_over p c terms large (omega (arith, f, large))

-- one more term, whose count is cut off above the limit
pub count_taken : (terms : List (Bor (List CaseValue))) (i count capped : ℕ) (term : Bor (List CaseValue)) → i < length terms → get_or terms i term ≡ term → capped ≡ min (min (count * length term.now) (2 ^ 64 - 1)) (cases_limit + 1)
    → are_few (count_from count (seen (drop i terms))) ≡ are_few (count_from capped (seen (drop (i + 1) terms)))
count_taken terms i count capped term within at e =
    at_drop_more (λ (ts : List (Bor (List CaseValue))). are_few (count_from count (seen ts))) terms i term within
    ∙ ap (λ (b : Bor (List CaseValue)). are_few (count_from (count * length b.now) (seen (drop (i + 1) terms)))) at
    ∙ capped_by (count * length term.now) capped (seen (drop (i + 1) terms)) (nat_le (count * length term.now) cases_limit) refl e

-- ---- how many there are

choices_more : (cs : List Choice) (cases : List CaseValue) → length (with_term cs cases) ≡ length cs * length cases
choices_more [] cases = omega arith
choices_more (c ∷ cs) cases =
    length-append (map (with_case c) cases) (with_term cs cases)
    ∙ ap (λ (n : ℕ). n + length (with_term cs cases)) (length-map cases (with_case c))
    ∙ ap (λ (n : ℕ). length cases + n) (choices_more cs cases)
    ∙ omega (arith, suc-mul (length cs) (length cases))

pub choices_counted : (cs : List Choice) (terms : List (List CaseValue)) → length (choices_from cs terms) ≡ count_from (length cs) terms
choices_counted cs [] = refl
choices_counted cs (cases ∷ terms) = choices_counted (with_term cs cases) terms ∙ ap (λ (n : ℕ). count_from n terms) (choices_more cs cases)

pub pairs_counted : (firsts bs : List CaseValue) → length (case_pairs firsts bs) ≡ length firsts * length bs
pairs_counted [] bs = omega arith
pairs_counted (a ∷ firsts) bs =
    length-append (map (λ (b : CaseValue). (a, b)) bs) (case_pairs firsts bs)
    ∙ ap (λ (n : ℕ). n + length (case_pairs firsts bs)) (length-map bs (λ (b : CaseValue). (a, b)))
    ∙ ap (λ (n : ℕ). length bs + n) (pairs_counted firsts bs)
    ∙ omega (arith, suc-mul (length firsts) (length bs))
