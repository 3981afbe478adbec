-- What the laws of the lexicon say.
use Rattle.std.specs.Prelude.{◌≡◌, ℕ, ◌+◌, ◌≤◌, ◌⊎◌, List, [], ◌∷◌, ◌++◌, length, IsTrue, Option, Some, Result, Ok}
use Rattle.std.specs.Char.{is_ascii_digit}
use Rattle.std.specs.List.{list_all}
use Rattle.smt_lex.specs.declared.token.LexError.{LexError}
use Rattle.smt_lex.specs.declared.token.Token.{Token}
use Rattle.smt_lex.specs.declared.token.TokenKind.{TokenKind}
use Rattle.smt_lex.specs.declared.token.TokenKind.TheVariants.{Numeral, Symbol}
use Rattle.smt_lex.specs.Bytes.{is_quoted_byte}
use Rattle.smt_lex.specs.Grammar.{EndsToken, IsToken, Reads, is_simple_symbol}
use Rattle.smt_lex.specs.Symbols.{symbol_content}

-- at each place one thing can be read
abbrev pub OneReading : Type 0
OneReading = (bytes : List ℕ) (place : ℕ) (r s : Result (Option Token) LexError) (m n : ℕ)
    → Reads bytes place r m → Reads bytes place s n → (r ≡ s) × (m ≡ n)

-- the token of this text behind so many bytes
abbrev pub token_at : TokenKind → List ℕ → ℕ → Token
token_at kind text start = record { kind = kind; start = start; end = start + length text }

-- a token that is written behind at most one space is read again, if what follows doesn't go on with it
abbrev pub ReadsBack : Type 0
ReadsBack = (kind : TokenKind) (before gap text after : List ℕ) → (gap ≡ []) ⊎ (gap ≡ 32 ∷ []) → IsToken kind text → EndsToken kind after
    → Reads (before ++ (gap ++ (text ++ after))) (length before) (Ok (Some (token_at kind text (length before + length gap))))
    (length before + length gap + length text)

-- what is read in front of a closing parenthesis is read the same whatever follows the parenthesis
abbrev pub ReadsBefore : Type 0
ReadsBefore = (front rest other : List ℕ) (place : ℕ) (t : Token) (after : ℕ) → Reads (front ++ 41 ∷ rest) place (Ok (Some t)) after
    → after ≤ length front → Reads (front ++ 41 ∷ other) place (Ok (Some t)) after

-- and so is the parenthesis itself
abbrev pub ReadsClosing : Type 0
ReadsClosing = (front rest other : List ℕ) (place : ℕ) (t : Token) (after : ℕ) → Reads (front ++ 41 ∷ rest) place (Ok (Some t)) after
    → t.start ≡ length front → Reads (front ++ 41 ∷ other) place (Ok (Some t)) after

-- a numeral's token is digits alone
abbrev pub NumeralIsDigits : Type 0
NumeralIsDigits = (text : List ℕ) → IsToken Numeral text → IsTrue (list_all is_ascii_digit text)

-- the content of a symbol's token is the token itself, or what stands between its bars
abbrev pub ContentOfSymbol : Type 0
ContentOfSymbol = (text : List ℕ) → IsToken Symbol text
    → (IsTrue (is_simple_symbol text) × (symbol_content text ≡ text))
    ⊎ (IsTrue (list_all is_quoted_byte (symbol_content text)) × (text ≡ 124 ∷ symbol_content text ++ 124 ∷ []))
