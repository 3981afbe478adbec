-- The digits of a numeral, and the minus form of a number.
use Rattle.std.proofs.Common.{◌≡◌, ℕ, ◌<◌, ◌≤◌, ◌^◌, ◌+◌, ◌/◌, ◌%◌, map, ap, false, true, ℤ, pos, negsuc, [], ◌∷◌, ◌++◌, refl, sym, ◌∙◌, arith, int_le, unsigned_abs, true≢false, decimal, eq-zero-or-pos, inl, inr, List, append_assoc}
use Rattle.std.proofs.lemmas.Bool.{ne_eqb}
use Rattle.std.proofs.lemmas.Fmt.{decimal_digit, decimal_step, decimal_by_steps_wide}
use Rattle.std.proofs.lemmas.Int.Digits.{digits_of_step}
use Rattle.std.proofs.lemmas.List.{map_push}
use Rattle.std.specs.Int.Digits.{digits_of}
use lib.Dec.{leb-zero}
use Rattle.smt_lex.specs.Bytes.{is_symbol_byte}
use Rattle.smt_sexpr.specs.Printing.{text_of}
use Rattle.cert_text.specs.Form.{numeral_text, number_of_value}

-- what the formatter writes
digits_wide : (n : ℕ) → 0 < n → n < 10 ^ 64 → decimal n ≡ map (λ d. 48 + d) (digits_of 10 n)
digits_wide n some small = decimal_by_steps_wide (λ m ds. 0 < m → ds ≡ map (λ d. 48 + d) (digits_of 10 m))
    (λ m l a. let z : m / 10 ≡ 0 = omega arith in let e : m % 10 ≡ m = omega arith in sym (ap (map (λ d. 48 + d)) (digits_of_step 10 m (omega arith) a ∙ (λ i. digits_of 10 (z i) ++ (e i ∷ [])))))
    (λ m ds l h a. ap (λ x. x ++ ((48 + m % 10) ∷ [])) (h (omega arith)) ∙ sym (map_push (λ d. 48 + d) (digits_of 10 (m / 10)) (m % 10)) ∙ ap (map (λ d. 48 + d)) (sym (digits_of_step 10 m (omega arith) a)))
    n small some

pub numeral_from_decimal : (n : ℕ) → n < 2 ^ 128 → decimal n ≡ numeral_text n
unfolding numeral_text
numeral_from_decimal n small =
    elim (eq-zero-or-pos n) [
      | inl none ↦ rw none (decimal_digit 0 (omega arith))
      | inr some ↦ rw (ne_eqb n 0 (λ h. absurd (omega arith))) (digits_wide n some (omega arith))
    ]

-- one digit
pub numeral_of_digit : (n : ℕ) → n < 10 → numeral_text n ≡ (48 + n) ∷ []
numeral_of_digit n digit = sym (numeral_from_decimal n (omega arith)) ∙ decimal_digit n digit

pub digit_text : (n : ℤ) (m : ℕ) → int_le (pos 0) n ≡ true → m ≡ unsigned_abs n → m < 10 → text_of (number_of_value n) ≡ (48 + m) ∷ []
digit_text (pos n) m at_least is digit = ap numeral_text (sym is) ∙ numeral_of_digit m digit
digit_text (negsuc n) m at_least is digit = absurd (true≢false (sym at_least))

pub minus_text : (n : ℤ) → int_le (pos 0) n ≡ false → text_of (number_of_value n) ≡ 40 ∷ 45 ∷ 32 ∷ (numeral_text (unsigned_abs n) ++ 41 ∷ [])
unfolding is_symbol_byte
minus_text (pos n) e = absurd (true≢false (sym (leb-zero n) ∙ e))
minus_text (negsuc n) e = refl

-- a number below 0, put down from its end
pub minus_before : (n : ℤ) (m : ℕ) (rest a b c d e : List ℕ) → int_le (pos 0) n ≡ false → m ≡ unsigned_abs n → a ≡ 41 ∷ rest → b ≡ numeral_text m ++ a → c ≡ 32 ∷ b → d ≡ 45 ∷ c → e ≡ 40 ∷ d → e ≡ text_of (number_of_value n) ++ rest
minus_before n m rest a b c d e below is closed digits space minus opened =
    let text : b ≡ (numeral_text (unsigned_abs n) ++ 41 ∷ []) ++ rest = digits ∙ (λ i. numeral_text (is i) ++ closed i) ∙ sym (append_assoc (numeral_text (unsigned_abs n)) (41 ∷ []) rest) in
    opened ∙ ap (λ (xs : List ℕ). 40 ∷ xs) (minus ∙ ap (λ (xs : List ℕ). 45 ∷ xs) (space ∙ ap (λ (xs : List ℕ). 32 ∷ xs) text)) ∙ ap (λ (xs : List ℕ). xs ++ rest) (sym (minus_text n below))

pub numeral_of_two : (n : ℕ) → 10 ≤ n → n < 100 → numeral_text n ≡ (48 + n / 10) ∷ (48 + n % 10) ∷ []
numeral_of_two n some small =
    let two : decimal n ≡ (48 + n / 10) ∷ (48 + n % 10) ∷ [] = rw (decimal_step n some (omega arith), decimal_digit (n / 10) (omega arith)) refl in
    sym (numeral_from_decimal n (omega arith)) ∙ two

pub numeral_of_three : (n : ℕ) → 100 ≤ n → n < 1000 → numeral_text n ≡ (48 + n / 100) ∷ (48 + n / 10 % 10) ∷ (48 + n % 10) ∷ []
numeral_of_three n some small =
    let hundreds : n / 10 / 10 ≡ n / 100 = omega arith in
    let three : decimal n ≡ (48 + n / 100) ∷ (48 + n / 10 % 10) ∷ (48 + n % 10) ∷ [] =
    rw (decimal_step n (omega arith) (omega arith), decimal_step (n / 10) (omega arith) (omega arith), hundreds, decimal_digit (n / 100) (omega arith)) refl in
    sym (numeral_from_decimal n (omega arith)) ∙ three

-- two digits, put down from their end
pub two_before : (n u v : ℕ) (rest a b : List ℕ) → 10 ≤ n → n < 100 → u ≡ 48 + n % 10 → v ≡ 48 + n / 10 → a ≡ u ∷ rest → b ≡ v ∷ a → b ≡ numeral_text n ++ rest
two_before n u v rest a b some small ones tens second first =
    first ∙ (λ i. tens i ∷ second i) ∙ ap (λ (k : ℕ). (48 + n / 10) ∷ k ∷ rest) ones ∙ ap (λ (ds : List ℕ). ds ++ rest) (sym (numeral_of_two n some small))

-- one digit
pub one_before : (n u : ℕ) (rest a : List ℕ) → n < 10 → u ≡ 48 + n → a ≡ u ∷ rest → a ≡ numeral_text n ++ rest
one_before n u rest a small is first = first ∙ ap (λ (k : ℕ). k ∷ rest) is ∙ ap (λ (ds : List ℕ). ds ++ rest) (sym (numeral_of_digit n small))

-- the points and the bound of a literal, put down from their end
pub bound_before : (x y u v : ℕ) (number rest a b c d e f : List ℕ) → u ≡ x → v ≡ y → a ≡ 41 ∷ rest → b ≡ number ++ a → c ≡ 32 ∷ b → d ≡ numeral_text v ++ c → e ≡ 32 ∷ d → f ≡ numeral_text u ++ e → f ≡ (numeral_text x ++ 32 ∷ (numeral_text y ++ 32 ∷ (number ++ 41 ∷ []))) ++ rest
bound_before x y u v number rest a b c d e f is_x is_y closed bound space second gap first =
    let behind : c ≡ (32 ∷ (number ++ 41 ∷ [])) ++ rest = space ∙ ap (λ (xs : List ℕ). 32 ∷ xs) (bound ∙ ap (λ (xs : List ℕ). number ++ xs) closed ∙ sym (append_assoc number (41 ∷ []) rest)) in
    let left : e ≡ (32 ∷ (numeral_text y ++ 32 ∷ (number ++ 41 ∷ []))) ++ rest = gap ∙ ap (λ (xs : List ℕ). 32 ∷ xs) (second ∙ (λ i. numeral_text (is_y i) ++ behind i) ∙ sym (append_assoc (numeral_text y) (32 ∷ (number ++ 41 ∷ [])) rest)) in
    first ∙ (λ i. numeral_text (is_x i) ++ left i) ∙ sym (append_assoc (numeral_text x) (32 ∷ (numeral_text y ++ 32 ∷ (number ++ 41 ∷ []))) rest)
