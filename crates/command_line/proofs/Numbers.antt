-- The number of an option: what `get_one` reads is the number of the definition.
use Rattle.std.proofs.Common.{◌≡◌, ◌∙◌, ◌<◌, ◌≤◌, ◌^◌, ℕ, Bool, true, false, Option, Some, None, refl, sym, ap, arith}
use Rattle.std.specs.Prelude.{if◌then◌else◌}
use Rattle.std.specs.Str.Parse.{ParsesUnsigned, ExplainsUnsignedError, HasUnsignedDigitsIfOk, digits_value, without_leading_plus}
use Rattle.clap.specs.Words.{IsUnsignedIn, ReadsOne, Text, one_of, one_text, rows_of}
use Rattle.clap.specs.ValueTests.{is_unsigned_in}
use Rattle.clap.specs.declared.builder.value_parser.ValueParser.TheVariants as vp
use Rattle.clap.specs.declared.parser.matches.Found.{Found}
use Rattle.clap.proofs.ValueTestLemmas.{accepts-Accepts, Accepts-accepts}
use Rattle.clap.proofs.WalkLemmas.{one_text-rows}
use Rattle.command_line.specs.Lines.{number_of}

abbrev value_of : Text → ℕ
value_of t = digits_value 10 (without_leading_plus t)

-- what `get_one` says of a text
abbrev pub Gives : Text → Option ℕ → Type 0
Gives t r = ReadsOne (λ bs x. ParsesUnsigned 32 10 bs x × ExplainsUnsignedError 10 bs x × HasUnsignedDigitsIfOk bs x) t r

in_range : (least most : ℕ) (t : Text) → is_unsigned_in least most t ≡ true → IsUnsignedIn least most t
in_range least most t h = accepts-Accepts false (vp.Unsigned least most) t h

pub is_in_range : (least most : ℕ) (t : Text) → IsUnsignedIn least most t → is_unsigned_in least most t ≡ true
is_in_range least most t h = Accepts-accepts false (vp.Unsigned least most) t h

by_test : (least most default : ℕ) (t : Text) (b : Bool) → is_unsigned_in least most t ≡ b → number_of (Some t) least most default ≡ (if b then value_of t else default)
by_test least most default t b e = ap (λ (x : Bool). if x then value_of t else default) e

read_in : (least most default n : ℕ) (o : Option Text) → most < 2 ^ 32 → (o ≡ None → Some n ≡ None) → ((t : Text) → o ≡ Some t → Gives t (Some n))
    → least ≤ n → n ≤ most → n ≡ number_of o least most default
read_in least most default n None small none value low high = let bad : Some n ≡ None = none refl in cc
read_in least most default n (Some t) small none value low high =
    let g = (value t refl).0 in
    let is : n ≡ value_of t = g.1 in
    let wide : value_of t < 2 ^ 64 = omega (arith, is, high, small) in
    let above : least ≤ value_of t = rw (← is) low in
    let below : value_of t ≤ most = rw (← is) high in
    is ∙ sym (by_test least most default t true (is_in_range least most t (g.0.0, wide, above, below)))

out_of_range : (least most default n : ℕ) (t : Text) (b : Bool) → is_unsigned_in least most t ≡ b → n ≡ value_of t → ((least ≤ n) × (n ≤ most) → ⊥)
    → default ≡ number_of (Some t) least most default
out_of_range least most default n t false e is out = sym (by_test least most default t false e)
out_of_range least most default n t true e is out =
    let h = in_range least most t e in
    let low : least ≤ n = rw is h.2 in
    let high : n ≤ most = rw is h.3 in
    absurd (out (low, high))

read_out : (least most default n : ℕ) (o : Option Text) → (o ≡ None → Some n ≡ None) → ((t : Text) → o ≡ Some t → Gives t (Some n))
    → ((least ≤ n) × (n ≤ most) → ⊥) → default ≡ number_of o least most default
read_out least most default n None none value out = refl
read_out least most default n (Some t) none value out = out_of_range least most default n t _ refl ((value t refl).0.1) out

not_read_by : (least most default : ℕ) (t : Text) (b : Bool) → is_unsigned_in least most t ≡ b → most < 2 ^ 32 → Gives t None → default ≡ number_of (Some t) least most default
not_read_by least most default t false e small g = sym (by_test least most default t false e)
not_read_by least most default t true e small g =
    let h = in_range least most t e in
    let high : value_of t ≤ most = h.3 in
    let fits : value_of t < 2 ^ 32 = omega (arith, high, small) in
    absurd (g.1.0 (h.0, fits))

not_read : (least most default : ℕ) (o : Option Text) → most < 2 ^ 32 → ((t : Text) → o ≡ Some t → Gives t None) → default ≡ number_of o least most default
not_read least most default None small value = refl
not_read least most default (Some t) small value = not_read_by least most default t _ refl small (value t refl)

-- the same of what the matches hold

over_rows : (f : Found) (name : Text) (least most default n : ℕ) → n ≡ number_of (one_text f name) least most default → n ≡ number_of (one_of name (rows_of f)) least most default
over_rows f name least most default n e = e ∙ ap (λ (o : Option Text). number_of o least most default) (one_text-rows f name)

pub number_read : (f : Found) (name : Text) (least most default n : ℕ) → most < 2 ^ 32 → (one_text f name ≡ None → Some n ≡ None)
    → ((t : Text) → one_text f name ≡ Some t → Gives t (Some n)) → least ≤ n → n ≤ most → n ≡ number_of (one_of name (rows_of f)) least most default
number_read f name least most default n small none value low high = over_rows f name least most default n (read_in least most default n (one_text f name) small none value low high)

pub number_out : (f : Found) (name : Text) (least most default n : ℕ) → (one_text f name ≡ None → Some n ≡ None)
    → ((t : Text) → one_text f name ≡ Some t → Gives t (Some n)) → ((least ≤ n) × (n ≤ most) → ⊥) → default ≡ number_of (one_of name (rows_of f)) least most default
number_out f name least most default n none value out = over_rows f name least most default default (read_out least most default n (one_text f name) none value out)

pub number_not_read : (f : Found) (name : Text) (least most default : ℕ) → most < 2 ^ 32
    → ((t : Text) → one_text f name ≡ Some t → Gives t None) → default ≡ number_of (one_of name (rows_of f)) least most default
number_not_read f name least most default small value = over_rows f name least most default default (not_read least most default (one_text f name) small value)
