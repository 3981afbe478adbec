-- What stands between the bars of a symbol.
use Rattle.std.proofs.Common.{◌≡◌, ℕ, ◌-◌, ◌⊎◌, false, not, ◌&&◌, List, [], ◌∷◌, ◌++◌, length, take, refl, ap, ◌∙◌, inl, inr, arith, length-append}
use lib.Seq.{take-append_seam}
use Rattle.std.specs.Prelude.{IsTrue}
use Rattle.std.specs.Char.{is_ascii_digit}
use Rattle.std.specs.List.{list_all}
use Rattle.std.proofs.lemmas.Bool.{and_parts}
use Rattle.smt_lex.specs.Bytes.{is_symbol_byte, is_quoted_byte}
use Rattle.smt_lex.proofs.Printed.{not_mark}
use Rattle.smt_lex.specs.Grammar.{IsToken, is_simple_symbol}
use Rattle.smt_lex.specs.Symbols.{symbol_content}
use Rattle.smt_lex.specs.declared.token.TokenKind.TheVariants.{Symbol}

take_front : (xs : List ℕ) (c : ℕ) → take (length (xs ++ c ∷ []) - 1) (xs ++ c ∷ []) ≡ xs
take_front xs c = let k : length (xs ++ c ∷ []) - 1 ≡ length xs = omega (arith, length-append xs (c ∷ [])) in rw k (take-append_seam xs (c ∷ []))

pub content_of_barred : (content : List ℕ) → symbol_content (124 ∷ content ++ 124 ∷ []) ≡ content
unfolding symbol_content
content_of_barred content = take_front content 124

is_bar_no_symbol_byte : is_symbol_byte 124 ≡ false
unfolding is_symbol_byte
is_bar_no_symbol_byte = refl

pub content_of_plain : (text : List ℕ) → IsTrue (is_simple_symbol text) → symbol_content text ≡ text
unfolding symbol_content
content_of_plain [] h = refl
content_of_plain (b ∷ bs) h =
    let first = and_parts (not (is_ascii_digit b)) (is_symbol_byte b) (and_parts (not (is_ascii_digit b) && is_symbol_byte b) (list_all is_symbol_byte bs) h).0 in
    rw (not_mark is_symbol_byte b 124 first.1 is_bar_no_symbol_byte) refl

pub content_cases : (text : List ℕ) → IsToken Symbol text
    → (IsTrue (is_simple_symbol text) × (symbol_content text ≡ text))
    ⊎ (IsTrue (list_all is_quoted_byte (symbol_content text)) × (text ≡ 124 ∷ symbol_content text ++ 124 ∷ []))
content_cases text (inl h) = inl (h, content_of_plain text h)
content_cases text (inr (inside, e, r)) =
    let content : symbol_content text ≡ inside = ap symbol_content e ∙ content_of_barred inside in
    inr (rw content r, rw content e)
