-- A token that is written before a byte that can't go on with it is read again.
use Rattle.std.proofs.Common.{◌≡◌, ℕ, suc, ◌+◌, Bool, true, false, not, ◌&&◌, ◌||◌, ◌⊎◌, eqb, ltb, List, [], ◌∷◌, ◌++◌, length, drop, Some, Ok, refl, sym, ap, subst, ◌∙◌, arith, inl, inr}
use Rattle.std.specs.Char.{is_ascii_digit, is_ascii_hexdigit}
use Rattle.std.specs.List.{prefix_len, list_all}
use Rattle.std.proofs.lemmas.Bool.{and_parts, or_cases, not-true, eqb-true, lt-ltb, false_from_ne_true, and_left, and_right, ne_eqb, or_from}
use Rattle.std.proofs.lemmas.List.{append_assoc, drop_at, drop-drop, length-append}
use Rattle.smt_lex.specs.declared.token.TokenKind.{TokenKind}
use Rattle.smt_lex.specs.declared.token.TokenKind.TheVariants.{Left, Right, Numeral, Decimal, Hex, Binary, Text, Symbol, Keyword}
use Rattle.smt_lex.specs.Bytes.{is_binary_digit, is_symbol_byte, is_quoted_byte, is_space}
use Rattle.smt_lex.specs.Grammar.{IsToken, is_run, is_numeral, is_inside_text, EndsToken, LongestGap, LongestToken, Reads}
use Rattle.smt_lex.specs.code.Scan.{gap_len}
use Rattle.smt_lex.specs.code.Front.{Front, marked, fraction_of, number_of, based_of, text_of, quoted_end_of, quoted_of, front_of}
use Rattle.smt_lex.proofs.FirstBytes.{starts, token_starts, no_token_empty}
use Rattle.smt_lex.proofs.Gaps.{gap_is}
use Rattle.smt_lex.proofs.OneFront.{token_sound}
use Rattle.smt_lex.proofs.Runs.{run_stops}
use Rattle.smt_lex.proofs.Texts.{text_inside, open_mark, shut_plain}

-- a byte that goes on with no token: a space or a closing parenthesis
abbrev pub ends : ℕ → Bool
ends c = eqb c 32 || eqb c 41

-- what is false of both is false of each
ends_none : (p : ℕ → Bool) (c : ℕ) → ends c ≡ true → p 32 ≡ false → p 41 ≡ false → p c ≡ false
ends_none p c e a b =
    elim (or_cases (eqb c 32) (eqb c 41) e) [
      | inl h ↦ rw (eqb-true c 32 h) a
      | inr h ↦ rw (eqb-true c 41 h) b
    ]

pub not_mark : (p : ℕ → Bool) (b mark : ℕ) → p b ≡ true → p mark ≡ false → eqb b mark ≡ false
not_mark p b mark h m = false_from_ne_true (eqb b mark) (λ e. let q : p mark ≡ true = subst (λ x. p x ≡ true) (eqb-true b mark e) h in let r : true ≡ false = sym q ∙ m in cc)

digit_dispatch : (b : ℕ) (bs : List ℕ) → is_ascii_digit b ≡ true → front_of (b ∷ bs) ≡ number_of b bs
unfolding front_of
digit_dispatch b bs d = rw (not_mark is_ascii_digit b 40 d refl, not_mark is_ascii_digit b 41 d refl, d) refl

symbol_not : (b : ℕ) → is_symbol_byte b ≡ true → (eqb b 40 ≡ false) × (eqb b 41 ≡ false) × (eqb b 35 ≡ false) × (eqb b 34 ≡ false) × (eqb b 124 ≡ false) × (eqb b 58 ≡ false)
unfolding is_symbol_byte
symbol_not b h = (not_mark is_symbol_byte b 40 h refl, not_mark is_symbol_byte b 41 h refl, not_mark is_symbol_byte b 35 h refl, not_mark is_symbol_byte b 34 h refl, not_mark is_symbol_byte b 124 h refl, not_mark is_symbol_byte b 58 h refl)

symbol_ends : (c : ℕ) → ends c ≡ true → is_symbol_byte c ≡ false
unfolding is_symbol_byte
symbol_ends c e = ends_none is_symbol_byte c e refl refl

binary_ends : (c : ℕ) → ends c ≡ true → is_binary_digit c ≡ false
unfolding is_binary_digit
binary_ends c e = ends_none is_binary_digit c e refl refl

symbol_dispatch : (b : ℕ) (bs : List ℕ) → is_symbol_byte b ≡ true → is_ascii_digit b ≡ false → front_of (b ∷ bs) ≡ Ok (Symbol, 1 + prefix_len is_symbol_byte bs)
unfolding front_of
symbol_dispatch b bs h d = let n = symbol_not b h in rw (n.0, n.1, d, n.2, n.3, n.4, n.5, h) refl

-- a numeral's first digit and the others
numeral_parts : (b : ℕ) (ds : List ℕ) → is_numeral (b ∷ ds) ≡ true → (is_ascii_digit b ≡ true) × (list_all is_ascii_digit ds ≡ true) × ((eqb b 48 && ltb 0 (length ds)) ≡ false)
numeral_parts b [] h = (h, refl, and_right (eqb b 48) false refl)
numeral_parts b (d ∷ ds) h =
    let p = and_parts (not (eqb b 48) && is_ascii_digit b) (list_all is_ascii_digit (d ∷ ds)) h in
    let q = and_parts (not (eqb b 48)) (is_ascii_digit b) p.0 in
    (q.1, p.1, and_left (eqb b 48) (ltb 0 (length (d ∷ ds))) (not-true (eqb b 48) q.0))

number_before : (b : ℕ) (ds : List ℕ) (c : ℕ) (rest : List ℕ) → is_numeral (b ∷ ds) ≡ true → is_ascii_digit c ≡ false → front_of (b ∷ ds ++ c ∷ rest) ≡ Ok (fraction_of (1 + length ds) (c ∷ rest))
unfolding number_of
number_before b ds c rest h stop =
    let p = numeral_parts b ds h in
    digit_dispatch b (ds ++ c ∷ rest) p.0 ∙ rw (run_stops is_ascii_digit ds c rest p.1 stop, p.2, drop_at ds (c ∷ rest) (length ds) refl) refl

fraction_before : (whole : ℕ) (fraction : List ℕ) (c : ℕ) (rest : List ℕ) → is_run is_ascii_digit fraction ≡ true → is_ascii_digit c ≡ false → fraction_of whole (46 ∷ fraction ++ c ∷ rest) ≡ (Decimal, whole + 1 + length fraction)
unfolding fraction_of
fraction_before whole [] c rest r stop = absurd cc
fraction_before whole (d ∷ ds) c rest r stop = rw (run_stops is_ascii_digit (d ∷ ds) c rest r stop, lt-ltb 0 (length (d ∷ ds)) (omega arith)) refl

marked_before : (kind : TokenKind) (p : ℕ → Bool) (mark : ℕ) (run : List ℕ) (c : ℕ) (rest : List ℕ) → is_run p run ≡ true → p c ≡ false → marked kind mark (prefix_len p (run ++ c ∷ rest)) ≡ Ok (kind, mark + length run)
marked_before kind p mark [] c rest r stop = absurd cc
marked_before kind p mark (d ∷ ds) c rest r stop = rw (run_stops p (d ∷ ds) c rest r stop, ne_eqb (length (d ∷ ds)) 0 (λ e. omega arith)) refl

same_len : (kind : TokenKind) (m n : ℕ) → m ≡ n → ◌≡◌ {A = Front} (Ok (kind, m)) (Ok (kind, n))
same_len kind m n e = ap (λ (x : ℕ). Ok (kind, x)) e

numeral_ends : (whole c : ℕ) (rest : List ℕ) → eqb c 46 ≡ false → fraction_of whole (c ∷ rest) ≡ (Numeral, whole)
unfolding fraction_of
numeral_ends whole c rest e = rw e refl

text_before : (inside : List ℕ) (c : ℕ) (rest : List ℕ) → is_inside_text inside ≡ true → eqb c 34 ≡ false → text_of (inside ++ 34 ∷ c ∷ rest) ≡ Ok (Text, 1 + (length inside + 1))
unfolding text_of
text_before inside c rest h e =
    rw (text_inside inside (34 ∷ c ∷ rest) h, open_mark 34 (c ∷ rest) refl, shut_plain c rest e, text_of) refl

pub quoted_before : (inside rest : List ℕ) → list_all is_quoted_byte inside ≡ true → quoted_of (inside ++ 124 ∷ rest) ≡ Ok (Symbol, 2 + length inside)
unfolding quoted_of quoted_end_of is_quoted_byte
quoted_before inside rest h = rw (run_stops is_quoted_byte inside 124 rest h refl, drop_at inside (124 ∷ rest) (length inside) refl) refl

text_dispatch : (bs : List ℕ) → front_of (34 ∷ bs) ≡ text_of bs
unfolding front_of
text_dispatch bs = refl

quoted_dispatch : (bs : List ℕ) → front_of (124 ∷ bs) ≡ quoted_of bs
unfolding front_of
quoted_dispatch bs = refl

-- a token before an end is the front
pub front_before : (kind : TokenKind) (text : List ℕ) (c : ℕ) (rest : List ℕ) → IsToken kind text → ends c ≡ true → front_of (text ++ c ∷ rest) ≡ Ok (kind, length text)
unfolding front_of based_of
front_before Left text c rest t e = rw t refl
front_before Right text c rest t e = rw t refl
front_before Numeral [] c rest t e = absurd cc
front_before Numeral (b ∷ ds) c rest t e =
    number_before b ds c rest t (ends_none is_ascii_digit c e refl refl) ∙ ap (λ (x : TokenKind × ℕ). Ok x) (numeral_ends (1 + length ds) c rest (ends_none (λ x. eqb x 46) c e refl refl)) ∙ same_len Numeral (1 + length ds) (suc (length ds)) (omega arith)
front_before Decimal text c rest ([], fraction, e, w, f) h = absurd cc
front_before Decimal text c rest (b ∷ ds, fraction, e, w, f) h =
    let split : text ++ c ∷ rest ≡ b ∷ ds ++ 46 ∷ (fraction ++ c ∷ rest) = ap (λ (xs : List ℕ). xs ++ c ∷ rest) e ∙ append_assoc (b ∷ ds) (46 ∷ fraction) (c ∷ rest) in
    let len : 1 + length ds + 1 + length fraction ≡ length text = omega (arith, ap length e, length-append (b ∷ ds) (46 ∷ fraction)) in
    ap front_of split ∙ number_before b ds 46 (fraction ++ c ∷ rest) w refl ∙ ap (λ (x : TokenKind × ℕ). Ok x) (fraction_before (1 + length ds) fraction c rest f (ends_none is_ascii_digit c h refl refl)) ∙ same_len Decimal (1 + length ds + 1 + length fraction) (length text) len
front_before Hex text c rest (digits, e, r) h = rw e (marked_before Hex is_ascii_hexdigit 2 digits c rest r (ends_none is_ascii_hexdigit c h refl refl) ∙ same_len Hex (2 + length digits) (suc (suc (length digits))) (omega arith))
front_before Binary text c rest (digits, e, r) h = rw e (marked_before Binary is_binary_digit 2 digits c rest r (binary_ends c h) ∙ same_len Binary (2 + length digits) (suc (suc (length digits))) (omega arith))
front_before Text text c rest (inside, e, r) h =
    let split : text ++ c ∷ rest ≡ 34 ∷ (inside ++ 34 ∷ c ∷ rest) = ap (λ (xs : List ℕ). xs ++ c ∷ rest) e ∙ append_assoc (34 ∷ inside) (34 ∷ []) (c ∷ rest) in
    let len : 1 + (length inside + 1) ≡ length text = omega (arith, ap length e, length-append (34 ∷ inside) (34 ∷ [])) in
    ap front_of split ∙ text_dispatch (inside ++ 34 ∷ c ∷ rest) ∙ text_before inside c rest r (ends_none (λ x. eqb x 34) c h refl refl) ∙ same_len Text (1 + (length inside + 1)) (length text) len
front_before Symbol [] c rest (inl t) h = absurd cc
front_before Symbol (b ∷ bs) c rest (inl t) h =
    let p = and_parts (not (is_ascii_digit b) && is_symbol_byte b) (list_all is_symbol_byte bs) t in
    let q = and_parts (not (is_ascii_digit b)) (is_symbol_byte b) p.0 in
    symbol_dispatch b (bs ++ c ∷ rest) q.1 (not-true (is_ascii_digit b) q.0) ∙ same_len Symbol (1 + prefix_len is_symbol_byte (bs ++ c ∷ rest)) (suc (length bs)) (omega (arith, run_stops is_symbol_byte bs c rest p.1 (symbol_ends c h)))
front_before Symbol text c rest (inr (inside, e, r)) h =
    let split : text ++ c ∷ rest ≡ 124 ∷ (inside ++ 124 ∷ c ∷ rest) = ap (λ (xs : List ℕ). xs ++ c ∷ rest) e ∙ append_assoc (124 ∷ inside) (124 ∷ []) (c ∷ rest) in
    let len : 2 + length inside ≡ length text = omega (arith, ap length e, length-append (124 ∷ inside) (124 ∷ [])) in
    ap front_of split ∙ quoted_dispatch (inside ++ 124 ∷ c ∷ rest) ∙ quoted_before inside (c ∷ rest) r ∙ same_len Symbol (2 + length inside) (length text) len
front_before Keyword text c rest (name, e, r) h = rw e (marked_before Keyword is_symbol_byte 1 name c rest r (symbol_ends c h) ∙ same_len Keyword (1 + length name) (suc (length name)) (omega arith))

-- ---- at a place

starts_59 : (kind : TokenKind) → starts kind 59 ≡ false
unfolding is_symbol_byte
starts_59 Left = refl
starts_59 other = refl

starts_9 : (kind : TokenKind) → starts kind 9 ≡ false
unfolding is_symbol_byte
starts_9 Left = refl
starts_9 other = refl

starts_10 : (kind : TokenKind) → starts kind 10 ≡ false
unfolding is_symbol_byte
starts_10 Left = refl
starts_10 other = refl

starts_13 : (kind : TokenKind) → starts kind 13 ≡ false
unfolding is_symbol_byte
starts_13 Left = refl
starts_13 other = refl

starts_32 : (kind : TokenKind) → starts kind 32 ≡ false
unfolding is_symbol_byte
starts_32 Left = refl
starts_32 other = refl

starts_space : (kind : TokenKind) (b : ℕ) → starts kind b ≡ true → is_space b ≡ false
unfolding is_space
starts_space kind b h =
    or_from (eqb b 9 || eqb b 10 || eqb b 13) (eqb b 32) (or_from (eqb b 9 || eqb b 10) (eqb b 13) (or_from (eqb b 9) (eqb b 10) (not_mark (starts kind) b 9 h (starts_9 kind)) (not_mark (starts kind) b 10 h (starts_10 kind))) (not_mark (starts kind) b 13 h (starts_13 kind))) (not_mark (starts kind) b 32 h (starts_32 kind))

token_no_gap : (kind : TokenKind) (b : ℕ) (bs after : List ℕ) → IsToken kind (b ∷ bs) → gap_len false (b ∷ (bs ++ after)) ≡ 0
unfolding gap_len
token_no_gap kind b bs after t =
    let s = token_starts kind b bs t in
    rw (not_mark (starts kind) b 59 s (starts_59 kind), starts_space kind b s) refl

gap_before : (gap : List ℕ) (b : ℕ) (bs after : List ℕ) (kind : TokenKind) → (gap ≡ []) ⊎ (gap ≡ 32 ∷ []) → IsToken kind (b ∷ bs) → gap_len false (gap ++ (b ∷ (bs ++ after))) ≡ length gap
unfolding gap_len is_space
gap_before gap b bs after kind (inl e) t = rw e (token_no_gap kind b bs after t)
gap_before gap b bs after kind (inr e) t = rw (e, token_no_gap kind b bs after t) refl

ends_from : (c : ℕ) → (c ≡ 32) ⊎ (c ≡ 41) → ends c ≡ true
ends_from c (inl e) = rw e refl
ends_from c (inr e) = rw e refl

front_ends : (kind : TokenKind) (text after : List ℕ) → IsToken kind text → EndsToken kind after → front_of (text ++ after) ≡ Ok (kind, length text)
unfolding front_of
front_ends Left text after t h = rw t refl
front_ends Right text after t h = rw t refl
front_ends other text after t (c, rest, e, h) = rw e (front_before other text c rest t (ends_from c h))

pub reads_printed : (kind : TokenKind) (before gap text after : List ℕ) → (gap ≡ []) ⊎ (gap ≡ 32 ∷ []) → IsToken kind text → EndsToken kind after
    → Reads (before ++ (gap ++ (text ++ after))) (length before) (Ok (Some (record { kind = kind; start = length before + length gap; end = length before + length gap + length text }))) (length before + length gap + length text)
reads_printed kind before gap [] after g t h = absurd (no_token_empty kind t)
reads_printed kind before gap (b ∷ bs) after g t h =
    let bytes = before ++ (gap ++ (b ∷ (bs ++ after))) in
    let here : drop (length before) bytes ≡ gap ++ (b ∷ (bs ++ after)) = drop_at before (gap ++ (b ∷ (bs ++ after))) (length before) refl in
    let there : drop (length before + length gap) bytes ≡ b ∷ (bs ++ after) = sym (drop-drop (length gap) (length before) bytes) ∙ ap (drop (length gap)) here ∙ drop_at gap (b ∷ (bs ++ after)) (length gap) refl in (
      length gap,
      subst (λ (xs : List ℕ). LongestGap xs (length gap)) (sym here) (gap_is (gap ++ (b ∷ (bs ++ after))) (length gap) (sym (gap_before gap b bs after kind g t))),
      (refl, length (b ∷ bs), subst (λ (xs : List ℕ). LongestToken xs kind (length (b ∷ bs))) (sym there) (token_sound b (bs ++ after) kind (length (b ∷ bs)) (front_ends kind (b ∷ bs) after t h)), refl, refl),
    )
