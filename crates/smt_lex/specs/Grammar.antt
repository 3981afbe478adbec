-- The lexicon of SMT-LIB 2.6, section 3.1: which bytes are a gap, a token, a refusal, and what is read at a place.
-- Bytes are numbers: 34 is ", 35 #, 40 (, 41 ), 46 the point, 48 the digit 0, 58 :, 59 ;, 92 the backslash, 124 the bar.
-- The longest token is taken at each place, which the standard leaves to the reader.
use Rattle.std.specs.Prelude.{◌≡◌, ◌≢◌, ℕ, ◌+◌, ◌<◌, ◌≤◌, Bool, true, false, not, IsTrue, ◌==◌, ◌&&◌, if◌then◌else◌, List, [], ◌∷◌, ◌++◌, length, take, drop, ◌⊎◌, Option, Some, None, Result, Ok, Err}
use Rattle.std.specs.Char.{is_ascii_digit, is_ascii_hexdigit}
use Rattle.std.specs.List.{list_all}
use Rattle.smt_lex.specs.declared.token.TokenKind.{TokenKind}
use Rattle.smt_lex.specs.declared.token.TokenKind.TheVariants.{Left, Right, Numeral, Decimal, Hex, Binary, Text, Symbol, Keyword}
use Rattle.smt_lex.specs.declared.token.LexErrorKind.{LexErrorKind}
use Rattle.smt_lex.specs.declared.token.LexErrorKind.TheVariants.{BadByte, UnclosedText, UnclosedSymbol, LeadingZero}
use Rattle.smt_lex.specs.declared.token.Token.{Token}
use Rattle.smt_lex.specs.declared.token.LexError.{LexError}
use Rattle.smt_lex.specs.Bytes.{is_space, is_line_end, is_binary_digit, is_symbol_byte, is_quoted_byte}

-- ---- gaps

-- white space and comments; a comment runs from ; to a line's end, and inside says whether the bytes begin in one
unfoldable pub is_gap : Bool → List ℕ → Bool
is_gap inside [] = true
is_gap true (b ∷ bs) = is_gap (not (is_line_end b)) bs
is_gap false (b ∷ bs) = if b == 59 then is_gap true bs else (is_space b && is_gap false bs)

-- of the fronts of the bytes that are gaps, the longest has n bytes
pub record LongestGap (bytes : List ℕ) (n : ℕ) : Type 0 where
  pub within : n ≤ length bytes
  pub gap : IsTrue (is_gap false (take n bytes))
  pub longest : (m : ℕ) → n < m → m ≤ length bytes → IsTrue (is_gap false (take m bytes)) → ⊥

-- ---- tokens

-- one or more bytes that pass
abbrev pub is_run : (ℕ → Bool) → List ℕ → Bool
is_run p [] = false
is_run p (b ∷ bs) = p b && list_all p bs

-- 0, or digits that don't begin with 0
abbrev pub is_numeral : List ℕ → Bool
is_numeral [] = false
is_numeral (b ∷ []) = is_ascii_digit b
is_numeral (b ∷ c ∷ bs) = not (b == 48) && is_ascii_digit b && list_all is_ascii_digit (c ∷ bs)

-- not beginning with a digit
abbrev pub is_simple_symbol : List ℕ → Bool
is_simple_symbol [] = false
is_simple_symbol (b ∷ bs) = not (is_ascii_digit b) && is_symbol_byte b && list_all is_symbol_byte bs

-- what may stand inside a string, which is called a text here: each quotation mark is doubled
unfoldable pub is_inside_text : List ℕ → Bool
is_inside_text [] = true
is_inside_text (b ∷ []) = not (b == 34)
is_inside_text (b ∷ c ∷ bs) = if b == 34 then (c == 34 && is_inside_text bs) else is_inside_text (c ∷ bs)

-- bytes between bars, none of them a bar or a backslash; there may be none
abbrev pub IsQuotedSymbol : List ℕ → Type 0
IsQuotedSymbol text = (inside : List ℕ) × (text ≡ 124 ∷ inside ++ 124 ∷ []) × IsTrue (list_all is_quoted_byte inside)

-- these bytes are, whole, a token of this kind
abbrev pub IsToken : TokenKind → List ℕ → Type 0
IsToken Left text = text ≡ 40 ∷ []
IsToken Right text = text ≡ 41 ∷ []
IsToken Numeral text = IsTrue (is_numeral text)
IsToken Decimal text =
    (whole : List ℕ) × (fraction : List ℕ) × (text ≡ whole ++ 46 ∷ fraction) × IsTrue (is_numeral whole) × IsTrue (is_run is_ascii_digit fraction)
IsToken Hex text = (digits : List ℕ) × (text ≡ 35 ∷ 120 ∷ digits) × IsTrue (is_run is_ascii_hexdigit digits)
IsToken Binary text = (digits : List ℕ) × (text ≡ 35 ∷ 98 ∷ digits) × IsTrue (is_run is_binary_digit digits)
IsToken Text text = (inside : List ℕ) × (text ≡ 34 ∷ inside ++ 34 ∷ []) × IsTrue (is_inside_text inside)
IsToken Symbol text = IsTrue (is_simple_symbol text) ⊎ IsQuotedSymbol text
IsToken Keyword text = (name : List ℕ) × (text ≡ 58 ∷ name) × IsTrue (is_run is_symbol_byte name)

-- ---- refusals: this project's own, since the standard names none

-- a backslash in a quoted symbol, n bytes off
abbrev pub HasBackslash : List ℕ → ℕ → Type 0
HasBackslash bytes n =
    (inside : List ℕ) × (rest : List ℕ) × (bytes ≡ 124 ∷ inside ++ 92 ∷ rest) × IsTrue (list_all is_quoted_byte inside) × (n ≡ 1 + length inside)

-- no token begins, and neither a text nor a quoted symbol is opened
abbrev pub BeginsNothing : List ℕ → Type 0
BeginsNothing bytes =
    (b : ℕ) × (rest : List ℕ) × (bytes ≡ b ∷ rest) × (b ≢ 34) × (b ≢ 124) × ((kind : TokenKind) (m : ℕ) → m ≤ length bytes → IsToken kind (take m bytes) → ⊥)

-- the bytes are refused for this, and the place is n bytes off
abbrev pub Refuses : List ℕ → LexErrorKind → ℕ → Type 0
Refuses bytes BadByte n = HasBackslash bytes n ⊎ ((n ≡ 0) × BeginsNothing bytes)
Refuses bytes UnclosedText n = (inside : List ℕ) × (bytes ≡ 34 ∷ inside) × IsTrue (is_inside_text inside) × (n ≡ 0)
Refuses bytes UnclosedSymbol n = (inside : List ℕ) × (bytes ≡ 124 ∷ inside) × IsTrue (list_all is_quoted_byte inside) × (n ≡ 0)
Refuses bytes LeadingZero n = (digit : ℕ) × (rest : List ℕ) × (bytes ≡ 48 ∷ digit ∷ rest) × IsTrue (is_ascii_digit digit) × (n ≡ 0)

-- the bytes aren't refused, and of their fronts that are tokens the longest has n bytes and is of this kind
pub record LongestToken (bytes : List ℕ) (kind : TokenKind) (n : ℕ) : Type 0 where
  pub within : n ≤ length bytes
  pub token : IsToken kind (take n bytes)
  pub longest : (other : TokenKind) (m : ℕ) → n < m → m ≤ length bytes → IsToken other (take m bytes) → ⊥
  pub unrefused : (why : LexErrorKind) (d : ℕ) → Refuses bytes why d → ⊥

-- ---- what is read at a place

-- A gap of n bytes, and then the end, a token or a refusal; after is the place behind it.
abbrev pub ReadsBehind : List ℕ → ℕ → Result (Option Token) LexError → ℕ → Type 0
ReadsBehind bytes start (Ok None) after = (start ≡ length bytes) × (after ≡ start)
ReadsBehind bytes start (Ok (Some t)) after =
    (t.start ≡ start) × (n : ℕ) × LongestToken (drop start bytes) t.kind n × (t.end ≡ start + n) × (after ≡ t.end)
ReadsBehind bytes start (Err e) after = (n : ℕ) × Refuses (drop start bytes) e.kind n × (e.place ≡ start + n) × (after ≡ start)

-- From the place on the longest gap is left out; what stands behind it is read.
abbrev pub Reads : List ℕ → ℕ → Result (Option Token) LexError → ℕ → Type 0
Reads bytes place result after = (n : ℕ) × LongestGap (drop place bytes) n × ReadsBehind bytes (place + n) result after

-- ---- what is written

-- After a token of this kind these bytes don't go on with it. So a printer writes: behind a parenthesis anything may follow,
-- behind any other token a space or a closing parenthesis does.
abbrev pub EndsToken : TokenKind → List ℕ → Type 0
EndsToken Left after = Unit {0}
EndsToken Right after = Unit {0}
EndsToken _ after = (c : ℕ) × (rest : List ℕ) × (after ≡ c ∷ rest) × ((c ≡ 32) ⊎ (c ≡ 41))
