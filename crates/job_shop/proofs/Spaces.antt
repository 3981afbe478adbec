-- White space, digits, and whether a word is left.
use Rattle.std.proofs.Common.{◌≡◌, ◌∙◌, refl, sym, ap, arith, ℕ, ◌+◌, ◌<◌, ◌≤◌, ◌^◌, ◌==◌, ◌||◌, ◌&&◌, Bool, true, false, nat_eq, nat_le, List, [], ◌∷◌, ◌++◌, length, drop, get_or, inl, inr, Ok, Err}
use Rattle.std.specs.Prelude.{if◌then◌else◌}
use Rattle.std.specs.Char.{is_ascii_digit}
use Rattle.std.specs.List.{list_all}
use Rattle.std.proofs.lemmas.Bool.{cases_lt}
use Rattle.std.proofs.lemmas.Bool.Decides.{nat_tests}
use Rattle.smt_lex.specs.Bytes.{is_space}
use Rattle.smt_lex.specs.Numbers.{value_of}
use Rattle.job_shop.specs.declared.fault.JobFault.TheVariants.{NotANumber, OutOfRange}
use Rattle.job_shop.specs.Words.{words, word_on, number_in}
use Rattle.job_shop.specs.Instances.{is_over}
use Rattle.job_shop.specs.code.Reading.{rest_of}
use Rattle.job_shop.proofs.WordSteps.{word_begins, no_word}

pub space_is : (b : ℕ) → is_space b ≡ (b == 9 || b == 10 || b == 13 || b == 32)
unfolding is_space
space_is b = refl

-- ---- numbers

module _ (low high : ℕ) (word : List ℕ) where
  by_tests : (a b c : Bool) → list_all is_ascii_digit word ≡ a → nat_le low (value_of word) ≡ b → nat_le (value_of word) high ≡ c
      → number_in low high word ≡ (if a then (if (b && c) then Ok (value_of word) else Err OutOfRange) else Err NotANumber)
  by_tests a b c e f g =
      ap (λ (t : Bool). if t then (if (nat_le low (value_of word) && nat_le (value_of word) high) then Ok (value_of word) else Err OutOfRange) else Err NotANumber) e
      ∙ ap (λ (t : Bool). if a then (if (t && nat_le (value_of word) high) then Ok (value_of word) else Err OutOfRange) else Err NotANumber) f
      ∙ ap (λ (t : Bool). if a then (if (b && t) then Ok (value_of word) else Err OutOfRange) else Err NotANumber) g

  pub no_digits : list_all is_ascii_digit word ≡ false → number_in low high word ≡ Err NotANumber
  no_digits e = by_tests false (nat_le low (value_of word)) (nat_le (value_of word) high) e refl refl

  module _ (digits : list_all is_ascii_digit word ≡ true) where
    pub too_low : value_of word < low → number_in low high word ≡ Err OutOfRange
    too_low h = by_tests true false (nat_le (value_of word) high) digits (grind (arith, nat_tests, h)) refl

    high_by : (b : Bool) → nat_le low (value_of word) ≡ b → nat_le (value_of word) high ≡ false → number_in low high word ≡ Err OutOfRange
    high_by true f g = by_tests true true false digits f g
    high_by false f g = by_tests true false false digits f g

    pub too_high : high < value_of word → number_in low high word ≡ Err OutOfRange
    too_high h = high_by (nat_le low (value_of word)) refl (grind (arith, nat_tests, h))

    pub too_large : high < 2 ^ 32 → 2 ^ 64 ≤ value_of word → number_in low high word ≡ Err OutOfRange
    too_large small h = too_high (omega (arith, small, h))

    pub in_range : (n : ℕ) → n ≡ value_of word → low ≤ n → n ≤ high → number_in low high word ≡ Ok n
    in_range n e l h = by_tests true true true digits (grind (arith, nat_tests, e, l)) (grind (arith, nat_tests, e, h)) ∙ ap Ok (sym e)

-- ---- the end

abbrev none_left : List (List ℕ) → Bool
none_left ws = is_over (record { left = ws; number = 0 })

some_by : (word : List ℕ) (b : ℕ) (bytes : List ℕ) (t : Bool) → is_space b ≡ t → (none_left (word_on (word ++ b ∷ []) bytes) ≡ false) → none_left (word_on word (b ∷ bytes)) ≡ false
some_by word b bytes true e h = ap (λ (t : Bool). none_left (if t then word ∷ words bytes else word_on (word ++ b ∷ []) bytes)) e
some_by word b bytes false e h = ap (λ (t : Bool). none_left (if t then word ∷ words bytes else word_on (word ++ b ∷ []) bytes)) e ∙ h

some_word : (word bytes : List ℕ) → none_left (word_on word bytes) ≡ false
some_word word [] = refl
some_word word (b ∷ bytes) = some_by word b bytes (is_space b) refl (some_word (word ++ b ∷ []) bytes)

pub over_is : (bytes : List ℕ) (place start number : ℕ) → words (drop place bytes) ≡ words (drop start bytes) → start ≤ length bytes → (start < length bytes → is_space (get_or bytes start 0) ≡ false)
    → nat_eq start (length bytes) ≡ is_over (rest_of bytes place number)
over_is bytes place start number skipped within word = elim (cases_lt start (length bytes)) [
  | inl below ↦ (let other : nat_eq start (length bytes) ≡ false = grind (arith, nat_tests, below) in
      other ∙ sym (ap none_left (skipped ∙ word_begins bytes start below (word below)) ∙ some_word (get_or bytes start 0 ∷ []) (drop (start + 1) bytes)))
  | inr high ↦ (let same : nat_eq start (length bytes) ≡ true = grind (arith, nat_tests, high, within) in
      same ∙ sym (ap none_left (skipped ∙ no_word bytes start (omega arith))))
]
