-- The names of operations.
use Rattle.std.proofs.Common.{◌≡◌, ◌∙◌, refl, sym, ap, arith, ℕ, ◌+◌, ◌-◌, ◌*◌, ◌^◌, ◌<◌, ◌≤◌, Bool, true, false, List, [], ◌∷◌, ◌++◌, ◌==◌, decimal}
use Rattle.std.specs.Prelude.{codes, if◌then◌else◌}
use Rattle.std.specs.Char.{is_ascii_digit}
use Rattle.std.specs.List.{list_all}
use Rattle.std.proofs.lemmas.Bool.Decides.{nat_tests}
use Rattle.std.specs.Str.{bytes_eq}
use Rattle.std.proofs.lemmas.Slice.Eq.{bytes_eq-Decides}
use Rattle.smt_lex.specs.Bytes.{is_symbol_byte, is_quoted_byte}
use Rattle.smt_lex.specs.Grammar.{is_simple_symbol}
use Rattle.smt_lex.specs.Numbers.{value_from, value_of}
use Rattle.smt_sexpr.specs.Printing.{text_of, IsWritable}
use Rattle.smt_sexpr.specs.Shapes.{symbol}
use Rattle.job_shop.specs.Scripts.{name}
use Rattle.job_shop.proofs.Numerals.{both_pass, all_digits, decimal_value}

digit_range : (b : ℕ) → is_ascii_digit b ≡ true → (48 ≤ b) × (b ≤ 57)
digit_range b h = (grind (arith, nat_tests, h), grind (arith, nat_tests, h))

digit_symbol : (b : ℕ) → is_ascii_digit b ≡ true → is_symbol_byte b ≡ true
unfolding is_symbol_byte
digit_symbol b h = rw h refl

digit_quoted : (b : ℕ) → is_ascii_digit b ≡ true → is_quoted_byte b ≡ true
unfolding is_quoted_byte
digit_quoted b h = let r = digit_range b h in grind (arith, nat_tests, r.0, r.1)

all_of : (p q : ℕ → Bool) → ((b : ℕ) → p b ≡ true → q b ≡ true) → (ds : List ℕ) → list_all p ds ≡ true → list_all q ds ≡ true
all_of p q each [] h = refl
all_of p q each (d ∷ ds) h =
    let parts = both_pass (p d) (list_all p ds) h in
    rw (each d parts.0) (all_of p q each ds parts.1)

all_append : (p : ℕ → Bool) (xs ys : List ℕ) → list_all p xs ≡ true → list_all p ys ≡ true → list_all p (xs ++ ys) ≡ true
all_append p [] ys h k = k
all_append p (x ∷ xs) ys h k =
    let parts = both_pass (p x) (list_all p xs) h in
    rw parts.0 (all_append p xs ys parts.1 k)

pub name_is : (job k : ℕ) → name job k ≡ codes "s_" ++ (decimal job ++ (codes "_" ++ decimal k))
unfolding name
name_is job k = refl

module _ (job k : ℕ) (small : job < 2 ^ 64) (low : k < 2 ^ 64) where
  behind_all : (q : ℕ → Bool) → ((b : ℕ) → is_ascii_digit b ≡ true → q b ≡ true) → q 95 ≡ true → list_all q (decimal job ++ (95 ∷ decimal k)) ≡ true
  behind_all q each line =
      all_append q (decimal job) (95 ∷ decimal k) (all_of is_ascii_digit q each (decimal job) (all_digits job small))
      (rw line (all_of is_ascii_digit q each (decimal k) (all_digits k low)))

  name_simple : is_simple_symbol (name job k) ≡ true
  unfolding name is_symbol_byte
  name_simple = behind_all is_symbol_byte digit_symbol refl

  pub name_text : text_of (symbol (name job k)) ≡ name job k
  name_text = rw name_simple refl

  pub name_writable : IsWritable (symbol (name job k))
  unfolding name is_quoted_byte
  name_writable = behind_all is_quoted_byte digit_quoted refl

-- ---- no two names are one

-- the number of the digits before the first line, and what follows that
abbrev split : ℕ → List ℕ → ℕ × List ℕ
split acc [] = (acc, [])
split acc (b ∷ bs) = if b == 95 then (acc, bs) else split (acc * 10 + (b - 48)) bs

digit_line : (b : ℕ) → is_ascii_digit b ≡ true → (b == 95) ≡ false
digit_line b h = let r = digit_range b h in grind (arith, nat_tests, r.0, r.1)

split_digits : (acc : ℕ) (ds rest : List ℕ) → list_all is_ascii_digit ds ≡ true → split acc (ds ++ (95 ∷ rest)) ≡ (value_from acc ds, rest)
unfolding value_from
split_digits acc [] rest h = refl
split_digits acc (d ∷ ds) rest h =
    let parts = both_pass (is_ascii_digit d) (list_all is_ascii_digit ds) h in
    rw (digit_line d parts.0) (split_digits (acc * 10 + (d - 48)) ds rest parts.1)

abbrev behind : List ℕ → ℕ × List ℕ
behind (s ∷ l ∷ rest) = split 0 rest
behind other = (0, [])

named : (job k : ℕ) → job < 2 ^ 64 → behind (name job k) ≡ (job, decimal k)
unfolding name
named job k small = split_digits 0 (decimal job) (decimal k) (all_digits job small) ∙ ap (λ (n : ℕ). (n, decimal k)) (decimal_value job small)

pub same_job : (a i b j : ℕ) → a < 2 ^ 64 → b < 2 ^ 64 → name a i ≡ name b j → a ≡ b
same_job a i b j fits small e = ap (λ (p : ℕ × List ℕ). p.0) (sym (named a i fits) ∙ ap behind e ∙ named b j small)

pub same_place : (a i b j : ℕ) → a < 2 ^ 64 → b < 2 ^ 64 → i < 2 ^ 64 → j < 2 ^ 64 → name a i ≡ name b j → i ≡ j
same_place a i b j fits small low below e =
    sym (decimal_value i low) ∙ ap (λ (p : ℕ × List ℕ). value_of p.1) (sym (named a i fits) ∙ ap behind e ∙ named b j small) ∙ decimal_value j below

same_by : (x y : List ℕ) (b : Bool) → bytes_eq x y ≡ b → (x ≡ y → ⊥) → bytes_eq x y ≡ false
same_by x y true e apart = absurd (apart ((bytes_eq-Decides x y).0 e))
same_by x y false e apart = e

pub other_name : (x y : List ℕ) → (x ≡ y → ⊥) → bytes_eq x y ≡ false
other_name x y apart = same_by x y (bytes_eq x y) refl apart

pub own_name : (x : List ℕ) → bytes_eq x x ≡ true
own_name x = grind (arith, bytes_eq-Decides x x)
