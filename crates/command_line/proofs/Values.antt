-- A numeral in range is a value that clap takes, and is read as its number; a word of `--emit` is one too.
use Rattle.std.proofs.Common.{◌≡◌, ◌==◌, ◌∙◌, ◌<◌, ◌≤◌, ◌^◌, ℕ, true, false, [], ◌∷◌, Some, None, refl, ap, sym, subst, arith}
use Rattle.std.specs.Str.{bytes_eq}
use Rattle.std.specs.Str.Parse.{IsNumeral, digits_value, without_leading_plus}
use Rattle.std.proofs.lemmas.Bool.{ne_eqb}
use Rattle.std.proofs.lemmas.Str.Parse.{digit_from_value}
use Rattle.clap.specs.Words.{Text}
use Rattle.clap.specs.Lexer.{strip_byte}
use Rattle.clap.specs.ValueTests.{accepts, is_unsigned_in}
use Rattle.clap.specs.declared.builder.value_parser.ValueParser.TheVariants as vp
use Rattle.command_line.specs.Apps.{emit_words}
use Rattle.command_line.specs.Lines.{number_of}
use Rattle.command_line.specs.Plain.{IsNumeralOf, word_of}
use Rattle.command_line.specs.declared.line.Emit.{Emit}
use Rattle.command_line.specs.declared.line.Emit.TheVariants.{Plan, Script, Certificate}
use Rattle.command_line.proofs.Numbers.{is_in_range}

-- the text is a value that the parser takes, and no flag
pub record IsValue (least most : ℕ) (t : Text) : Type 0 where
  pub bare : strip_byte 45 t ≡ None
  pub no_dashes : bytes_eq t (45 ∷ 45 ∷ []) ≡ false
  pub fits : is_unsigned_in least most t ≡ true

abbrev the_value : Text → ℕ
the_value t = digits_value 10 (without_leading_plus t)

no_hyphen : (d : ℕ) (ds : Text) → (d == 45) ≡ false → strip_byte 45 (d ∷ ds) ≡ None
no_hyphen d ds e = rw e refl

not_dashes : (d : ℕ) (ds : Text) → (d == 45) ≡ false → bytes_eq (d ∷ ds) (45 ∷ 45 ∷ []) ≡ false
not_dashes d ds e = rw e refl

no_plus : (d : ℕ) (ds : Text) → (d == 43) ≡ false → without_leading_plus (d ∷ ds) ≡ d ∷ ds
no_plus d ds e = rw e refl

value_with : (least most n d : ℕ) (ds : Text) → most < 2 ^ 64 → IsNumeralOf least most (d ∷ ds) n → (d == 45) ≡ false → (d == 43) ≡ false
    → IsValue least most (d ∷ ds) × (the_value (d ∷ ds) ≡ n)
value_with least most n d ds small h dash plus =
    let bare : without_leading_plus (d ∷ ds) ≡ d ∷ ds = no_plus d ds plus in
    let is : the_value (d ∷ ds) ≡ n = ap (λ (t : Text). digits_value 10 t) bare ∙ h.value in
    let numeral : IsNumeral 10 (without_leading_plus (d ∷ ds)) = subst (λ (t : Text). IsNumeral 10 t) (sym bare) h.numeral in
    let low : least ≤ the_value (d ∷ ds) = subst (λ (k : ℕ). least ≤ k) (sym is) h.first in
    let last : the_value (d ∷ ds) ≤ most = subst (λ (k : ℕ). k ≤ most) (sym is) h.last in
    let wide : the_value (d ∷ ds) < 2 ^ 64 = omega (arith, last, small) in
    (record { bare = no_hyphen d ds dash; no_dashes = not_dashes d ds dash; fits = is_in_range least most (d ∷ ds) (numeral, wide, low, last) }, is)

value_from_digit : (least most n d : ℕ) (ds : Text) → most < 2 ^ 64 → IsNumeralOf least most (d ∷ ds) n → 48 ≤ d → IsValue least most (d ∷ ds) × (the_value (d ∷ ds) ≡ n)
value_from_digit least most n d ds small h digit = value_with least most n d ds small h (ne_eqb d 45 (λ e. absurd (omega (arith, e, digit)))) (ne_eqb d 43 (λ e. absurd (omega (arith, e, digit))))

value_of_numeral : (least most n : ℕ) (t : Text) → most < 2 ^ 64 → IsNumeralOf least most t n → IsValue least most t × (the_value t ≡ n)
value_of_numeral least most n [] small h = absurd (omega (arith, h.numeral.0))
value_of_numeral least most n (d ∷ ds) small h = value_from_digit least most n d ds small h ((digit_from_value d h.numeral.1.0).0)

pub value_by : (least most n : ℕ) (t : Text) → most < 2 ^ 64 → IsNumeralOf least most t n → IsValue least most t
value_by least most n t small h = (value_of_numeral least most n t small h).0

number_in : (least most default : ℕ) (t : Text) → is_unsigned_in least most t ≡ true → number_of (Some t) least most default ≡ the_value t
number_in least most default t fits = rw fits refl

pub read_as_number : (least most default n : ℕ) (t : Text) → most < 2 ^ 64 → IsNumeralOf least most t n → number_of (Some t) least most default ≡ n
read_as_number least most default n t small h =
    let v = value_of_numeral least most n t small h in
    number_in least most default t v.0.fits ∙ v.1

-- the same of a word of `--emit`
pub record IsWord (t : Text) : Type 0 where
  pub bare : strip_byte 45 t ≡ None
  pub no_dashes : bytes_eq t (45 ∷ 45 ∷ []) ≡ false
  pub fits : accepts false (vp.Names emit_words) t ≡ true

is_word : (what : Emit) → IsWord (word_of what)
is_word Plan = record { bare = refl; no_dashes = refl; fits = refl }
is_word Script = record { bare = refl; no_dashes = refl; fits = refl }
is_word Certificate = record { bare = refl; no_dashes = refl; fits = refl }

pub word_by : (what : Emit) (t : Text) → t ≡ word_of what → IsWord t
word_by what t e = subst IsWord (sym e) (is_word what)
