-- Numerals of up to three digits, at the front of a text.
use Rattle.std.proofs.Common.{arith, ◌≡◌, ◌≤◌, ◌<◌, ◌+◌, ◌-◌, ◌*◌, ◌/◌, ◌%◌, ℕ, List, [], ◌∷◌, ◌++◌, length, take, drop, get_or, ap, sym, ◌∙◌, refl}
use Rattle.std.proofs.lemmas.List.{take_all}
use Rattle.cert_text.specs.Form.{numeral_text}
use Rattle.cert_text.proofs.Numerals.{numeral_of_digit, numeral_of_two, numeral_of_three}

abbrev pub IsDigit : ℕ → Type 0
IsDigit b = (48 ≤ b) × (b ≤ 57)

abbrev pub IsLeading : ℕ → Type 0
IsLeading b = (49 ≤ b) × (b ≤ 57)

digit : (a v : ℕ) → IsDigit a → v ≡ a - 48 → numeral_text v ≡ a ∷ []
digit a v h is =
    let back : 48 + v ≡ a = omega (arith, h.0, is) in
    numeral_of_digit v (omega (arith, h.0, h.1, is)) ∙ ap (λ (k : ℕ). k ∷ []) back

two : (a b u v : ℕ) → IsLeading a → IsDigit b → u ≡ a - 48 → v ≡ b - 48 → numeral_text (10 * u + v) ≡ a ∷ b ∷ []
two a b u v h k is js =
    let tens : 48 + (10 * u + v) / 10 ≡ a = omega (arith, h.0, h.1, k.0, k.1, is, js) in
    let ones : 48 + (10 * u + v) % 10 ≡ b = omega (arith, h.0, h.1, k.0, k.1, is, js) in
    numeral_of_two (10 * u + v) (omega (arith, h.0, is)) (omega (arith, h.1, k.1, is, js)) ∙ (λ i. tens i ∷ ones i ∷ [])

three : (a b c u v w : ℕ) → IsLeading a → IsDigit b → IsDigit c → u ≡ a - 48 → v ≡ b - 48 → w ≡ c - 48 → numeral_text (100 * u + 10 * v + w) ≡ a ∷ b ∷ c ∷ []
three a b c u v w h k m is js ks =
    let hundreds : 48 + (100 * u + 10 * v + w) / 100 ≡ a = omega (arith, h.0, h.1, k.0, k.1, m.0, m.1, is, js, ks) in
    let tens : 48 + (100 * u + 10 * v + w) / 10 % 10 ≡ b = omega (arith, h.0, h.1, k.0, k.1, m.0, m.1, is, js, ks) in
    let ones : 48 + (100 * u + 10 * v + w) % 10 ≡ c = omega (arith, h.0, h.1, k.0, k.1, m.0, m.1, is, js, ks) in
    numeral_of_three (100 * u + 10 * v + w) (omega (arith, h.0, is)) (omega (arith, h.1, k.1, m.1, is, js, ks)) ∙ (λ i. hundreds i ∷ tens i ∷ ones i ∷ [])

pub one_in_front : (bytes : List ℕ) (end v : ℕ) → 2 ≤ length bytes → get_or bytes 1 0 ≡ end → IsDigit (get_or bytes 0 0) → v ≡ get_or bytes 0 0 - 48 → bytes ≡ numeral_text v ++ end ∷ take (length bytes - 2) (drop 2 bytes)
one_in_front [] end v some is h value = absurd (omega arith)
one_in_front (a ∷ []) end v some is h value = absurd (omega arith)
one_in_front (a ∷ e ∷ rest) end v some is h value =
    let all : take (length (a ∷ e ∷ rest) - 2) rest ≡ rest = take_all (length (a ∷ e ∷ rest) - 2) rest (omega arith) in
    (λ i. a ∷ is i ∷ sym all i) ∙ ap (λ (ds : List ℕ). ds ++ end ∷ take (length (a ∷ e ∷ rest) - 2) rest) (sym (digit a v h value))

pub two_in_front : (bytes : List ℕ) (end u v : ℕ) → 3 ≤ length bytes → get_or bytes 2 0 ≡ end → IsLeading (get_or bytes 0 0) → IsDigit (get_or bytes 1 0) → u ≡ get_or bytes 0 0 - 48 → v ≡ get_or bytes 1 0 - 48
    → bytes ≡ numeral_text (10 * u + v) ++ end ∷ take (length bytes - 3) (drop 3 bytes)
two_in_front [] end u v some is h k first second = absurd (omega arith)
two_in_front (a ∷ []) end u v some is h k first second = absurd (omega arith)
two_in_front (a ∷ b ∷ []) end u v some is h k first second = absurd (omega arith)
two_in_front (a ∷ b ∷ e ∷ rest) end u v some is h k first second =
    let all : take (length (a ∷ b ∷ e ∷ rest) - 3) rest ≡ rest = take_all (length (a ∷ b ∷ e ∷ rest) - 3) rest (omega arith) in
    (λ i. a ∷ b ∷ is i ∷ sym all i) ∙ ap (λ (ds : List ℕ). ds ++ end ∷ take (length (a ∷ b ∷ e ∷ rest) - 3) rest) (sym (two a b u v h k first second))

pub three_in_front : (bytes : List ℕ) (end u v w : ℕ) → 4 ≤ length bytes → get_or bytes 3 0 ≡ end → IsLeading (get_or bytes 0 0) → IsDigit (get_or bytes 1 0) → IsDigit (get_or bytes 2 0) → u ≡ get_or bytes 0 0 - 48 → v ≡ get_or bytes 1 0 - 48 → w ≡ get_or bytes 2 0 - 48
    → bytes ≡ numeral_text (100 * u + 10 * v + w) ++ end ∷ take (length bytes - 4) (drop 4 bytes)
three_in_front [] end u v w some is h k m first second third = absurd (omega arith)
three_in_front (a ∷ []) end u v w some is h k m first second third = absurd (omega arith)
three_in_front (a ∷ b ∷ []) end u v w some is h k m first second third = absurd (omega arith)
three_in_front (a ∷ b ∷ c ∷ []) end u v w some is h k m first second third = absurd (omega arith)
three_in_front (a ∷ b ∷ c ∷ e ∷ rest) end u v w some is h k m first second third =
    let all : take (length (a ∷ b ∷ c ∷ e ∷ rest) - 4) rest ≡ rest = take_all (length (a ∷ b ∷ c ∷ e ∷ rest) - 4) rest (omega arith) in
    (λ i. a ∷ b ∷ c ∷ is i ∷ sym all i) ∙ ap (λ (ds : List ℕ). ds ++ end ∷ take (length (a ∷ b ∷ c ∷ e ∷ rest) - 4) rest) (sym (three a b c u v w h k m first second third))
