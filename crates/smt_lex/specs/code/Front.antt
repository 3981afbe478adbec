-- What stands at the front of the bytes, as the code finds it: a token and its length, or a refusal and how far off its
-- place is. These are words of the code's inner contracts, and no part of the meaning, which Grammar has.
use Rattle.std.specs.Prelude.{ℕ, ◌+◌, Bool, ◌==◌, ◌&&◌, nat_lt, if◌then◌else◌, List, [], ◌∷◌, drop, Some, None, Result, Ok, Err}
use Rattle.std.specs.Char.{is_ascii_digit, is_ascii_hexdigit}
use Rattle.std.specs.List.{prefix_len}
use Rattle.smt_lex.specs.declared.token.TokenKind.{TokenKind}
use Rattle.smt_lex.specs.declared.token.TokenKind.TheVariants.{Left, Right, Numeral, Decimal, Hex, Binary, Text, Symbol, Keyword}
use Rattle.smt_lex.specs.declared.token.LexErrorKind.{LexErrorKind}
use Rattle.smt_lex.specs.declared.token.LexErrorKind.TheVariants.{BadByte, UnclosedText, UnclosedSymbol, LeadingZero}
use Rattle.smt_lex.specs.Bytes.{is_binary_digit, is_symbol_byte, is_quoted_byte}
use Rattle.smt_lex.specs.code.Scan.{text_len}

abbrev pub Front : Type 0
Front = Result (TokenKind × ℕ) (LexErrorKind × ℕ)

-- a run of n bytes behind a mark, where the run may not be empty
abbrev pub marked : TokenKind → ℕ → ℕ → Front
marked kind mark n = if n == 0 then Err (BadByte, 0) else Ok (kind, mark + n)

-- behind digits: a point and more digits, or nothing that belongs to the number
unfoldable pub fraction_of : ℕ → List ℕ → TokenKind × ℕ
fraction_of whole [] = (Numeral, whole)
fraction_of whole (b ∷ bs) = if b == 46 && nat_lt 0 (prefix_len is_ascii_digit bs) then (Decimal, whole + 1 + prefix_len is_ascii_digit bs) else (Numeral, whole)

-- behind the first digit
unfoldable pub number_of : ℕ → List ℕ → Front
number_of first bs =
    let more = prefix_len is_ascii_digit bs in
    if first == 48 && nat_lt 0 more then Err (LeadingZero, 0) else Ok (fraction_of (1 + more) (drop more bs))

-- behind #
unfoldable pub based_of : List ℕ → Front
based_of [] = Err (BadByte, 0)
based_of (b ∷ bs) =
    if b == 120 then marked Hex 2 (prefix_len is_ascii_hexdigit bs)
    else (if b == 98 then marked Binary 2 (prefix_len is_binary_digit bs) else Err (BadByte, 0))

-- behind an opening quotation mark
unfoldable pub text_of : List ℕ → Front
text_of bs = elim (text_len Bool.true bs) [ None ↦ Err (UnclosedText, 0) | Some n ↦ Ok (Text, 1 + n) ]

-- behind an opening bar and n bytes that may stand in a quoted symbol
unfoldable pub quoted_end_of : ℕ → List ℕ → Front
quoted_end_of n [] = Err (UnclosedSymbol, 0)
quoted_end_of n (b ∷ bs) = if b == 124 then Ok (Symbol, 2 + n) else Err (BadByte, 1 + n)

-- behind an opening bar
unfoldable pub quoted_of : List ℕ → Front
quoted_of bs = let n = prefix_len is_quoted_byte bs in quoted_end_of n (drop n bs)

unfoldable pub front_of : List ℕ → Front
front_of [] = Err (BadByte, 0)
front_of (b ∷ bs) =
    if b == 40 then Ok (Left, 1)
    else (if b == 41 then Ok (Right, 1)
    else (if is_ascii_digit b then number_of b bs
    else (if b == 35 then based_of bs
    else (if b == 34 then text_of bs
    else (if b == 124 then quoted_of bs
    else (if b == 58 then marked Keyword 1 (prefix_len is_symbol_byte bs)
    else (if is_symbol_byte b then Ok (Symbol, 1 + prefix_len is_symbol_byte bs)
    else Err (BadByte, 0))))))))
