-- A numeral's text is that of its value.
use Rattle.std.proofs.Common.{◌≡◌, ◌⊎◌, inl, inr, ◌∙◌, refl, sym, ap, arith, ℕ, ◌+◌, ◌-◌, ◌*◌, ◌/◌, ◌%◌, ◌<◌, ◌≤◌, Bool, true, false, true≢false, List, [], ◌∷◌, ◌++◌, map, eq-zero-or-pos, ◌≢◌, not, ◌==◌, ◌&&◌}
use Rattle.std.specs.List.{list_all}
use Rattle.std.specs.Char.{is_ascii_digit}
use Rattle.std.specs.Int.Digits.{digits_of}
use Rattle.std.proofs.lemmas.Bool.{ne_eqb, cases_lt}
use Rattle.std.proofs.lemmas.Bool.Decides.{nat_tests}
use Rattle.std.proofs.lemmas.Int.Digits.{digits_of_step}
use Rattle.std.proofs.lemmas.List.{append_assoc, append-nil}
use Rattle.smt_lex.specs.Grammar.{is_numeral}
use Rattle.smt_lex.specs.Numbers.{value_from, value_of}
use Rattle.cert_text.specs.Form.{numeral_text}

both_pass : (p q : Bool) → (p && q) ≡ true → (p ≡ true) × (q ≡ true)
both_pass true q h = (refl, h)
both_pass false q h = absurd (true≢false (sym h))

not_true : (p : Bool) → not p ≡ true → p ≡ false
not_true true h = absurd (true≢false (sym h))
not_true false h = refl

first_passes : (p : ℕ → Bool) (x : ℕ) (xs : List ℕ) → list_all p (x ∷ xs) ≡ true → p x ≡ true
first_passes p x xs h = (both_pass (p x) (list_all p xs) h).0

others_pass : (p : ℕ → Bool) (x : ℕ) (xs : List ℕ) → list_all p (x ∷ xs) ≡ true → list_all p xs ≡ true
others_pass p x xs h = (both_pass (p x) (list_all p xs) h).1

apart_from : (m n : ℕ) → m ≢ n → (m < n) ⊎ (n < m)
apart_from m n apart = elim (cases_lt m n) [
  | inl below ↦ inl below
  | inr high ↦ elim (cases_lt n m) [ inl below ↦ inr below | inr low ↦ absurd (apart (omega arith)) ]
]

pub digit_is : (b : ℕ) → is_ascii_digit b ≡ true → (48 ≤ b) × (b ≤ 57)
digit_is b h = (grind (arith, nat_tests, h), grind (arith, nat_tests, h))

map_push : (ds : List ℕ) (d : ℕ) → map (λ x. 48 + x) (ds ++ d ∷ []) ≡ map (λ x. 48 + x) ds ++ (48 + d) ∷ []
map_push [] d = refl
map_push (e ∷ ds) d = ap (λ (xs : List ℕ). (48 + e) ∷ xs) (map_push ds d)

digits_push : (acc d : ℕ) → 0 < acc * 10 + d → d < 10 → digits_of 10 (acc * 10 + d) ≡ digits_of 10 acc ++ d ∷ []
digits_push acc d some low =
    let whole : (acc * 10 + d) / 10 ≡ acc = omega arith in
    let rest : (acc * 10 + d) % 10 ≡ d = omega arith in
    digits_of_step 10 (acc * 10 + d) (omega arith) some ∙ ap (λ (n : ℕ). digits_of 10 n ++ ((acc * 10 + d) % 10) ∷ []) whole ∙ ap (λ (n : ℕ). digits_of 10 acc ++ n ∷ []) rest

-- the bytes of a number's digits
abbrev bytes_of : ℕ → List ℕ
bytes_of n = map (λ d. 48 + d) (digits_of 10 n)

bytes_push : (acc b : ℕ) → 48 ≤ b → b ≤ 57 → 0 < acc * 10 + (b - 48) → bytes_of (acc * 10 + (b - 48)) ≡ bytes_of acc ++ b ∷ []
bytes_push acc b low high some =
    let digit : 48 + (b - 48) ≡ b = omega arith in
    ap (map (λ d. 48 + d)) (digits_push acc (b - 48) some (omega arith)) ∙ map_push (digits_of 10 acc) (b - 48) ∙ ap (λ (k : ℕ). bytes_of acc ++ k ∷ []) digit

value_bytes : (acc : ℕ) (text : List ℕ) → 0 < acc → list_all is_ascii_digit text ≡ true → (bytes_of (value_from acc text) ≡ bytes_of acc ++ text) × (0 < value_from acc text)
unfolding value_from
value_bytes acc [] some h = (sym (append-nil (bytes_of acc)), some)
value_bytes acc (b ∷ text) some h =
    let first : is_ascii_digit b ≡ true = first_passes is_ascii_digit b text h in
    let digit = digit_is b first in
    let more : 0 < acc * 10 + (b - 48) = omega arith in
    let rest = value_bytes (acc * 10 + (b - 48)) text more (others_pass is_ascii_digit b text h) in
    (rest.0 ∙ ap (λ (bytes : List ℕ). bytes ++ text) (bytes_push acc b digit.0 digit.1 more) ∙ append_assoc (bytes_of acc) (b ∷ []) text, rest.1)

-- one digit
single_text : (b : ℕ) → is_ascii_digit b ≡ true → numeral_text (value_of (b ∷ [])) ≡ b ∷ []
unfolding numeral_text value_from
single_text b h =
    let digit = digit_is b h in
    elim (eq-zero-or-pos (0 * 10 + (b - 48))) [
      | inl least ↦ rw least (ap (λ (k : ℕ). k ∷ []) (omega arith))
      | inr some ↦ rw (ne_eqb (0 * 10 + (b - 48)) 0 (λ z. absurd (omega arith))) (bytes_push 0 b digit.0 digit.1 some)
    ]

-- a first digit that isn't 0, and others
long_text : (b : ℕ) (text : List ℕ) → (b == 48) ≡ false → is_ascii_digit b ≡ true → list_all is_ascii_digit text ≡ true → numeral_text (value_of (b ∷ text)) ≡ b ∷ text
unfolding numeral_text value_from
long_text b text first h all =
    let digit = digit_is b h in
    let other : b ≢ 48 = λ e. absurd (grind (arith, nat_tests, first, e)) in
    let some : 0 < 0 * 10 + (b - 48) = omega (arith, apart_from b 48 other) in
    let rest = value_bytes (0 * 10 + (b - 48)) text some all in
    rw (ne_eqb (value_from (0 * 10 + (b - 48)) text) 0 (λ z. absurd (omega (arith, z, rest.1))))
    (rest.0 ∙ ap (λ (bytes : List ℕ). bytes ++ text) (bytes_push 0 b digit.0 digit.1 some))

pub text_of_value : (text : List ℕ) → is_numeral text ≡ true → numeral_text (value_of text) ≡ text
text_of_value [] h = absurd (true≢false (sym h))
text_of_value (b ∷ []) h = single_text b h
text_of_value (b ∷ c ∷ text) h =
    let parts = both_pass (not (b == 48) && is_ascii_digit b) (list_all is_ascii_digit (c ∷ text)) h in
    let first = both_pass (not (b == 48)) (is_ascii_digit b) parts.0 in
    long_text b (c ∷ text) (not_true (b == 48) first.0) first.1 parts.1
