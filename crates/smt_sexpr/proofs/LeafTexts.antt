-- The texts of leaves, as they are read and as they are written.
use Rattle.std.proofs.Common.{◌≡◌, ◌≢◌, ℕ, zero, suc, ◌+◌, ◌-◌, ◌<◌, ◌≤◌, Bool, true, false, not, ◌&&◌, eqb, List, [], ◌∷◌, ◌++◌, length, take, drop, refl, sym, subst, ◌∙◌, arith, inl, inr}
use Rattle.std.specs.Prelude.{slice_range}
use Rattle.std.specs.Char.{is_ascii_digit}
use Rattle.std.specs.List.{list_all}
use Rattle.std.proofs.lemmas.Bool.{and_parts, eqb-true, false_from_ne_true, cases_Bool}
use Rattle.std.proofs.lemmas.List.{length-append, length-drop, take_at}
use Rattle.smt_lex.specs.declared.token.TokenKind.{TokenKind}
use Rattle.smt_lex.specs.declared.token.TokenKind.TheVariants.{Left, Right, Numeral, Decimal, Hex, Binary, Text, Symbol, Keyword}
use Rattle.smt_lex.specs.declared.token.Token.{Token}
use Rattle.smt_lex.specs.Bytes.{is_symbol_byte, is_quoted_byte}
use Rattle.smt_lex.specs.Grammar.{IsToken, is_simple_symbol}
use Rattle.smt_lex.specs.Symbols.{symbol_content}
use Rattle.smt_sexpr.specs.Tree.{leaf_text, IsLeaf}
use Rattle.smt_sexpr.specs.Table.{Shows}
use Rattle.smt_sexpr.specs.Reading.{ReadsToken}
use Rattle.smt_sexpr.specs.Printing.{written}

no_token_empty : (kind : TokenKind) → IsToken kind [] → ⊥
no_token_empty Left t = cc
no_token_empty Right t = cc
no_token_empty Numeral t = cc
no_token_empty Decimal ([], fraction, e, w, f) = cc
no_token_empty Decimal (b ∷ whole, fraction, e, w, f) = cc
no_token_empty Hex (digits, e, r) = cc
no_token_empty Binary (digits, e, r) = cc
no_token_empty Text (inside, e, r) = cc
no_token_empty Symbol (inl t) = cc
no_token_empty Symbol (inr (inside, e, r)) = cc
no_token_empty Keyword (name, e, r) = cc

-- a byte of a simple symbol is neither a bar nor a backslash
not_byte : (p : ℕ → Bool) (b mark : ℕ) → p b ≡ true → p mark ≡ false → eqb b mark ≡ false
not_byte p b mark h m = false_from_ne_true (eqb b mark) (λ e. let q : p mark ≡ true = subst (λ x. p x ≡ true) (eqb-true b mark e) h in let r : true ≡ false = sym q ∙ m in cc)

bar_apart : (b : ℕ) → is_symbol_byte b ≡ true → eqb b 124 ≡ false
unfolding is_symbol_byte
bar_apart b h = not_byte is_symbol_byte b 124 h refl

symbol_quoted : (b : ℕ) → is_symbol_byte b ≡ true → is_quoted_byte b ≡ true
unfolding is_symbol_byte is_quoted_byte
symbol_quoted b h = rw (not_byte is_symbol_byte b 124 h refl, not_byte is_symbol_byte b 92 h refl) refl

all_quoted : (bs : List ℕ) → list_all is_symbol_byte bs ≡ true → list_all is_quoted_byte bs ≡ true
all_quoted [] h = refl
all_quoted (b ∷ bs) h = let p = and_parts (is_symbol_byte b) (list_all is_symbol_byte bs) h in rw (symbol_quoted b p.0, all_quoted bs p.1) refl

-- the parts of a simple symbol
simple_parts : (b : ℕ) (bs : List ℕ) → is_simple_symbol (b ∷ bs) ≡ true → (is_symbol_byte b ≡ true) × (list_all is_symbol_byte bs ≡ true)
simple_parts b bs h =
    let p = and_parts (not (is_ascii_digit b) && is_symbol_byte b) (list_all is_symbol_byte bs) h in
    ((and_parts (not (is_ascii_digit b)) (is_symbol_byte b) p.0).1, p.1)

simple_content : (text : List ℕ) → is_simple_symbol text ≡ true → symbol_content text ≡ text
unfolding symbol_content
simple_content [] h = refl
simple_content (b ∷ bs) h = rw (bar_apart b (simple_parts b bs h).0) refl

simple_quoted : (text : List ℕ) → is_simple_symbol text ≡ true → list_all is_quoted_byte text ≡ true
simple_quoted [] h = refl
simple_quoted (b ∷ bs) h = let p = simple_parts b bs h in rw (symbol_quoted b p.0, all_quoted bs p.1) refl

bars_content : (inside : List ℕ) → symbol_content (124 ∷ inside ++ 124 ∷ []) ≡ inside
unfolding symbol_content
bars_content inside = let n : length (inside ++ 124 ∷ []) - 1 ≡ length inside = omega (arith, length-append inside (124 ∷ [])) in rw n (take_at inside (124 ∷ []) (length inside) refl)

-- ---- as it is read

leaf_fits : (kind : TokenKind) (raw : List ℕ) → IsToken kind raw → kind ≢ Left → kind ≢ Right → IsLeaf kind (leaf_text kind raw)
leaf_fits Left raw t l r = absurd (l refl)
leaf_fits Right raw t l r = absurd (r refl)
leaf_fits Symbol raw (inl t) l r = rw (simple_content raw t) (simple_quoted raw t)
leaf_fits Symbol raw (inr (inside, e, h)) l r = rw (e, bars_content inside) h
leaf_fits kind raw t l r = t

pub leaf_apart : (kind : TokenKind) (text : List ℕ) → IsLeaf kind text → (kind ≢ Left) × (kind ≢ Right)
leaf_apart Left text h = absurd h
leaf_apart Right text h = absurd h
leaf_apart kind text h = (λ e. cc, λ e. cc)

token_positive : (bytes : List ℕ) (kind : TokenKind) (n : ℕ) → IsToken kind (take n bytes) → n ≤ length bytes → (0 < n) × (0 < length bytes)
token_positive bytes kind zero t le = absurd (no_token_empty kind t)
token_positive bytes kind (suc n) t le = (omega arith, omega arith)

-- a token takes bytes
pub token_forward : (bytes : List ℕ) (place : ℕ) (token : Token) (after : ℕ) → ReadsToken bytes place token after → place < after
token_forward bytes place token after (n, gap, (at, m, longest, end, behind)) =
    let some = token_positive (drop (place + n) bytes) token.kind m longest.token longest.within in
    let positive : 0 < m = some.0 in
    omega arith

pub token_shows : (bytes : List ℕ) (place : ℕ) (token : Token) (after : ℕ) → ReadsToken bytes place token after → token.kind ≢ Left → token.kind ≢ Right → Shows bytes token token.kind (leaf_text token.kind (slice_range bytes token.start token.end))
token_shows bytes place token after (n, gap, (at, m, longest, end, behind)) l r =
    let some = token_positive (drop (place + n) bytes) token.kind m longest.token longest.within in
    let positive : 0 < length (drop (place + n) bytes) = some.1 in
    let enough : m ≤ length (drop (place + n) bytes) = longest.within in
    let count : token.end - token.start ≡ m = omega arith in
    let raw : slice_range bytes token.start token.end ≡ take m (drop (place + n) bytes) = rw (count, at) refl in
    record {
      same_kind = refl;
      order = omega arith;
      within = omega (arith, length-drop (place + n) bytes);
      same_text = refl;
      fits = leaf_fits token.kind (slice_range bytes token.start token.end) (rw raw longest.token) l r;
    }

-- ---- as it is written

pub written_token : (kind : TokenKind) (text : List ℕ) → IsLeaf kind text → IsToken kind (written kind text)
written_token Left text h = absurd h
written_token Right text h = absurd h
written_token Symbol text h = elim (cases_Bool (is_simple_symbol text)) [
  | inl t ↦ rw t (inl t)
  | inr f ↦ rw f (inr (text, refl, h))
]
written_token kind text h = h

pub written_text : (kind : TokenKind) (text : List ℕ) → IsLeaf kind text → leaf_text kind (written kind text) ≡ text
written_text Left text h = absurd h
written_text Right text h = absurd h
written_text Symbol text h = elim (cases_Bool (is_simple_symbol text)) [
  | inl t ↦ rw t (simple_content text t)
  | inr f ↦ rw f (bars_content text)
]
written_text kind text h = refl

some_token : (kind : TokenKind) (text : List ℕ) → IsToken kind text → 0 < length text
some_token kind [] t = absurd (no_token_empty kind t)
some_token kind (b ∷ bs) t = omega arith

pub written_some : (kind : TokenKind) (text : List ℕ) → IsLeaf kind text → 0 < length (written kind text)
written_some kind text h = some_token kind (written kind text) (written_token kind text h)
