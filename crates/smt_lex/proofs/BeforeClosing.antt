-- What stands in front of a closing parenthesis is read the same, whatever follows the parenthesis.
use Rattle.std.proofs.Common.{◌≡◌, ℕ, zero, suc, ◌+◌, ◌<◌, ◌≤◌, Bool, true, false, not, cond, ◌&&◌, eqb, ltb, List, [], ◌∷◌, ◌++◌, length, take, drop, Option, Some, None, Ok, Err, refl, sym, ap, subst, ◌∙◌, arith, inl, inr}
use Rattle.std.specs.Char.{is_ascii_digit, is_ascii_hexdigit}
use Rattle.std.specs.List.{prefix_len, list_all}
use Rattle.std.proofs.lemmas.Bool.{cases_Bool, eqb-true}
use Rattle.std.proofs.lemmas.List.{append_assoc, drop-append-le, take-append-drop, length-drop, length-take, drop_at}
use Rattle.smt_lex.specs.declared.token.TokenKind.{TokenKind}
use Rattle.smt_lex.specs.declared.token.TokenKind.TheVariants.{Right, Numeral, Decimal, Hex, Binary, Text, Symbol, Keyword}
use Rattle.smt_lex.specs.declared.token.LexErrorKind.TheVariants.{BadByte, UnclosedText, LeadingZero}
use Rattle.smt_lex.specs.declared.token.Token.{Token}
use Rattle.smt_lex.specs.Bytes.{is_binary_digit, is_symbol_byte, is_quoted_byte, is_space, is_line_end}
use Rattle.smt_lex.specs.Grammar.{LongestGap, LongestToken, Reads}
use Rattle.smt_lex.specs.code.Scan.{gap_len, text_len, one_more}
use Rattle.smt_lex.specs.code.Front.{Front, marked, fraction_of, number_of, based_of, text_of, quoted_end_of, quoted_of, front_of}
use Rattle.smt_lex.proofs.Runs.{run_passes}
use Rattle.smt_lex.proofs.Gaps.{gap_sound, gap_unique, gap_is}
use Rattle.smt_lex.proofs.OneFront.{token_found, token_sound}
use Rattle.smt_lex.proofs.Printed.{quoted_before}

-- a token of so many bytes at most that the one gives is given by the other
abbrev IsKept : ℕ → Front → Front → Type 0
IsKept room f g = (x : TokenKind × ℕ) → f ≡ Ok x → x.1 ≤ room → g ≡ Ok x

kept_same : (room : ℕ) (f g : Front) → f ≡ g → IsKept room f g
kept_same room f g e x is le = sym e ∙ is

kept_cond : (room : ℕ) (b : Bool) (f g h k : Front) → IsKept room f h → IsKept room g k → IsKept room (cond b f g) (cond b h k)
kept_cond room true f g h k p q = p
kept_cond room false f g h k p q = q

module _ (rest other : List ℕ) where
  -- ---- runs

  run_same : (p : ℕ → Bool) → p 41 ≡ false → (ys : List ℕ) → prefix_len p (ys ++ 41 ∷ rest) ≡ prefix_len p (ys ++ 41 ∷ other)
  run_same p stop [] = rw stop refl
  run_same p stop (y ∷ ys) = ap (λ (n : ℕ). cond (p y) (1 + n) 0) (run_same p stop ys)

  run_within_by : (n room : ℕ) (t : Bool) → n ≤ room → cond t (1 + n) 0 ≤ suc room
  run_within_by n room true le = omega arith
  run_within_by n room false le = omega arith

  run_within : (p : ℕ → Bool) → p 41 ≡ false → (ys : List ℕ) → prefix_len p (ys ++ 41 ∷ rest) ≤ length ys
  run_within p stop [] = rw stop (omega arith)
  run_within p stop (y ∷ ys) = run_within_by (prefix_len p (ys ++ 41 ∷ rest)) (length ys) (p y) (run_within p stop ys)

  symbol_same : (ys : List ℕ) → prefix_len is_symbol_byte (ys ++ 41 ∷ rest) ≡ prefix_len is_symbol_byte (ys ++ 41 ∷ other)
  unfolding is_symbol_byte
  symbol_same ys = run_same is_symbol_byte refl ys

  binary_same : (ys : List ℕ) → prefix_len is_binary_digit (ys ++ 41 ∷ rest) ≡ prefix_len is_binary_digit (ys ++ 41 ∷ other)
  unfolding is_binary_digit
  binary_same ys = run_same is_binary_digit refl ys

  -- ---- numbers

  fraction_same : (whole : ℕ) (ys : List ℕ) → fraction_of whole (ys ++ 41 ∷ rest) ≡ fraction_of whole (ys ++ 41 ∷ other)
  unfolding fraction_of
  fraction_same whole [] = refl
  fraction_same whole (y ∷ ys) = ap (λ (n : ℕ). cond (eqb y 46 && ltb 0 n) (Decimal, whole + 1 + n) (Numeral, whole)) (run_same is_ascii_digit refl ys)

  number_same : (first : ℕ) (ys : List ℕ) → number_of first (ys ++ 41 ∷ rest) ≡ number_of first (ys ++ 41 ∷ other)
  unfolding number_of
  number_same first ys =
      let n = prefix_len is_ascii_digit (ys ++ 41 ∷ rest) in
      let within : n ≤ length ys = run_within is_ascii_digit refl ys in
      let left : fraction_of (1 + n) (drop n (ys ++ 41 ∷ rest)) ≡ fraction_of (1 + n) (drop n (ys ++ 41 ∷ other)) =
      ap (fraction_of (1 + n)) (drop-append-le n ys (41 ∷ rest) within) ∙ fraction_same (1 + n) (drop n ys) ∙ ap (fraction_of (1 + n)) (sym (drop-append-le n ys (41 ∷ other) within)) in
      ap (λ (x : TokenKind × ℕ). cond (eqb first 48 && ltb 0 n) (Err (LeadingZero, 0)) (Ok x)) left
      ∙ ap (λ (m : ℕ). cond (eqb first 48 && ltb 0 m) (Err (LeadingZero, 0)) (Ok (fraction_of (1 + m) (drop m (ys ++ 41 ∷ other))))) (run_same is_ascii_digit refl ys)

  based_same : (ys : List ℕ) → based_of (ys ++ 41 ∷ rest) ≡ based_of (ys ++ 41 ∷ other)
  unfolding based_of
  based_same [] = refl
  based_same (y ∷ ys) =
      ap (λ (n : ℕ). cond (eqb y 120) (marked Hex 2 n) (cond (eqb y 98) (marked Binary 2 (prefix_len is_binary_digit (ys ++ 41 ∷ rest))) (Err (BadByte, 0)))) (run_same is_ascii_hexdigit refl ys)
      ∙ ap (λ (n : ℕ). cond (eqb y 120) (marked Hex 2 (prefix_len is_ascii_hexdigit (ys ++ 41 ∷ other))) (cond (eqb y 98) (marked Binary 2 n) (Err (BadByte, 0)))) (binary_same ys)

  -- ---- texts

  one_more_parts : (o : Option ℕ) (n : ℕ) → one_more o ≡ Some n → (m : ℕ) × (o ≡ Some m) × (n ≡ 1 + m)
  one_more_parts None n e = absurd cc
  one_more_parts (Some m) n e = (m, refl, cc)

  text_len_kept : (opened : Bool) (ys : List ℕ) (n : ℕ) → text_len opened (ys ++ 41 ∷ rest) ≡ Some n → n ≤ length ys → text_len opened (ys ++ 41 ∷ other) ≡ Some n
  unfolding text_len
  text_len_kept true [] n e le = let p = one_more_parts (text_len true rest) n e in let m : n ≡ 1 + p.0 = p.2 in absurd (omega arith)
  text_len_kept false [] n e le = e
  text_len_kept true (y ∷ ys) n e le =
      let p = one_more_parts (text_len (not (eqb y 34)) (ys ++ 41 ∷ rest)) n e in
      let m : n ≡ 1 + p.0 = p.2 in
      ap one_more (text_len_kept (not (eqb y 34)) ys p.0 p.1 (omega arith)) ∙ ap Some (sym m)
  text_len_kept false (y ∷ ys) n e le =
      elim (cases_Bool (eqb y 34)) [
        | inl f ↦ (
            let p = one_more_parts (text_len true (ys ++ 41 ∷ rest)) n (rw f at e) in
            let m : n ≡ 1 + p.0 = p.2 in
            rw f (ap one_more (text_len_kept true ys p.0 p.1 (omega arith)) ∙ ap Some (sym m)))
        | inr f ↦ rw f (rw f at e)
      ]

  text_by : (ys : List ℕ) (o : Option ℕ) (x : TokenKind × ℕ) → text_len true (ys ++ 41 ∷ rest) ≡ o → ◌≡◌ {A = Front} (elim o [ None ↦ Err (UnclosedText, 0) | Some n ↦ Ok (Text, 1 + n) ]) (Ok x) → x.1 ≤ suc (length ys) → text_of (ys ++ 41 ∷ other) ≡ Ok x
  unfolding text_of
  text_by ys None x e is le = absurd cc
  text_by ys (Some n) x e is le =
      let same : ◌≡◌ {A = TokenKind × ℕ} (Text, 1 + n) x = cc in
      let count : 1 + n ≡ x.1 = ap (λ (p : TokenKind × ℕ). p.1) same in
      rw (text_len_kept true ys n e (omega arith), text_of) is

  text_kept : (ys : List ℕ) → IsKept (suc (length ys)) (text_of (ys ++ 41 ∷ rest)) (text_of (ys ++ 41 ∷ other))
  unfolding text_of
  text_kept ys x e le = text_by ys (text_len true (ys ++ 41 ∷ rest)) x refl e le

  -- ---- quoted symbols

  -- a quoted symbol is ended by a bar
  quoted_parts : (n : ℕ) (bs : List ℕ) (x : TokenKind × ℕ) → quoted_end_of n bs ≡ Ok x → (cs : List ℕ) × (bs ≡ 124 ∷ cs) × (x ≡ (Symbol, 2 + n))
  unfolding quoted_end_of
  quoted_parts n [] x e = absurd cc
  quoted_parts n (b ∷ bs) x e =
      elim (cases_Bool (eqb b 124)) [
        | inl f ↦ (let g : ◌≡◌ {A = Front} (Ok (Symbol, 2 + n)) (Ok x) = (rw f at e) in (bs, ap (λ (c : ℕ). c ∷ bs) (eqb-true b 124 f), cc))
        | inr f ↦ absurd (let g : ◌≡◌ {A = Front} (Err (BadByte, 1 + n)) (Ok x) = (rw f at e) in cc)
      ]

  first_part : (ys zs cs : List ℕ) → 0 < length ys → ys ++ zs ≡ 124 ∷ cs → (tail : List ℕ) × (ys ≡ 124 ∷ tail)
  first_part [] zs cs lt e = absurd (omega arith)
  first_part (y ∷ ys) zs cs lt e = (ys, ap (λ (c : ℕ). c ∷ ys) (let h : y ≡ 124 = cc in h))

  take_front : (n : ℕ) (xs ys : List ℕ) → n ≤ length xs → take n (xs ++ ys) ≡ take n xs
  take_front zero xs ys le = refl
  take_front (suc n) [] ys le = absurd (omega arith)
  take_front (suc n) (x ∷ xs) ys le = ap (λ (zs : List ℕ). x ∷ zs) (take_front n xs ys (omega arith))

  quoted_kept : (ys : List ℕ) → IsKept (suc (length ys)) (quoted_of (ys ++ 41 ∷ rest)) (quoted_of (ys ++ 41 ∷ other))
  unfolding quoted_of
  quoted_kept ys x e le =
      let n = prefix_len is_quoted_byte (ys ++ 41 ∷ rest) in
      let p = quoted_parts n (drop n (ys ++ 41 ∷ rest)) x e in
      let count : x.1 ≡ 2 + n = ap (λ (k : TokenKind × ℕ). k.1) p.2 in
      let lt : n < length ys = omega arith in
      let tail = first_part (drop n ys) (41 ∷ rest) p.0 (omega (arith, length-drop n ys)) (sym (drop-append-le n ys (41 ∷ rest) (omega arith)) ∙ p.1) in
      let inside = take n ys in
      let all : list_all is_quoted_byte inside ≡ true = ap (list_all is_quoted_byte) (sym (take_front n ys (41 ∷ rest) (omega arith))) ∙ run_passes is_quoted_byte (ys ++ 41 ∷ rest) in
      let parts : ys ≡ inside ++ 124 ∷ tail.0 = sym (take-append-drop n ys) ∙ ap (λ (zs : List ℕ). inside ++ zs) tail.1 in
      let whole : ys ++ 41 ∷ other ≡ inside ++ 124 ∷ (tail.0 ++ 41 ∷ other) = ap (λ (zs : List ℕ). zs ++ 41 ∷ other) parts ∙ append_assoc inside (124 ∷ tail.0) (41 ∷ other) in
      let len : 2 + length inside ≡ 2 + n = omega (arith, length-take n ys) in
      let found : quoted_of (ys ++ 41 ∷ other) ≡ Ok (Symbol, 2 + length inside) = ap quoted_of whole ∙ quoted_before inside (tail.0 ++ 41 ∷ other) all in
      found ∙ ap (λ (k : ℕ). Ok (Symbol, k)) len ∙ ap (λ (k : TokenKind × ℕ). Ok k) (sym p.2)

  -- ---- all tokens

  front_kept : (ys : List ℕ) → IsKept (length ys) (front_of (ys ++ 41 ∷ rest)) (front_of (ys ++ 41 ∷ other))
  unfolding front_of
  front_kept [] = kept_same 0 (Ok (Right, 1)) (Ok (Right, 1)) refl
  front_kept (y ∷ ys) =
      let room = suc (length ys) in
      kept_cond room (eqb y 40) _ _ _ _ (kept_same room _ _ refl)
      (kept_cond room (eqb y 41) _ _ _ _ (kept_same room _ _ refl)
      (kept_cond room (is_ascii_digit y) _ _ _ _ (kept_same room _ _ (number_same y ys))
      (kept_cond room (eqb y 35) _ _ _ _ (kept_same room _ _ (based_same ys))
      (kept_cond room (eqb y 34) _ _ _ _ (text_kept ys)
      (kept_cond room (eqb y 124) _ _ _ _ (quoted_kept ys)
      (kept_cond room (eqb y 58) _ _ _ _ (kept_same room _ _ (ap (marked Keyword 1) (symbol_same ys)))
      (kept_cond room (is_symbol_byte y) _ _ _ _ (kept_same room _ _ (ap (λ (n : ℕ). Ok (Symbol, 1 + n)) (symbol_same ys)))
      (kept_same room _ _ refl))))))))

  -- ---- gaps

  gap_kept : (inside : Bool) (ys : List ℕ) → gap_len inside (ys ++ 41 ∷ rest) ≤ length ys → gap_len inside (ys ++ 41 ∷ other) ≡ gap_len inside (ys ++ 41 ∷ rest)
  unfolding gap_len is_space is_line_end
  gap_kept true [] le = absurd (omega arith)
  gap_kept false [] le = refl
  gap_kept true (y ∷ ys) le = ap (λ (n : ℕ). 1 + n) (gap_kept (not (is_line_end y)) ys (omega arith))
  gap_kept false (y ∷ ys) le =
      elim (cases_Bool (eqb y 59)) [
        | inl e ↦ (let h = (rw e at le) in rw e (ap (λ (n : ℕ). 1 + n) (gap_kept true ys (omega arith))))
        | inr e ↦ elim (cases_Bool (is_space y)) [
          | inl f ↦ (let h = (rw (e, f) at le) in rw (e, f) (ap (λ (n : ℕ). 1 + n) (gap_kept false ys (omega arith))))
          | inr f ↦ rw (e, f) refl
        ]
      ]

  gap_at : (ys : List ℕ) (n : ℕ) → n ≤ length ys → LongestGap (ys ++ 41 ∷ rest) n → LongestGap (ys ++ 41 ∷ other) n
  gap_at ys n le h =
      let same : n ≡ gap_len false (ys ++ 41 ∷ rest) = gap_unique (ys ++ 41 ∷ rest) n (gap_len false (ys ++ 41 ∷ rest)) h (gap_sound (ys ++ 41 ∷ rest)) in
      gap_is (ys ++ 41 ∷ other) n (same ∙ sym (gap_kept false ys (omega arith)))

  -- ---- at a place

  token_at : (ys : List ℕ) (kind : TokenKind) (n : ℕ) → n ≤ length ys → LongestToken (ys ++ 41 ∷ rest) kind n → LongestToken (ys ++ 41 ∷ other) kind n
  token_at [] kind n le h = token_sound 41 other kind n (front_kept [] (kind, n) (token_found (41 ∷ rest) kind n h) le)
  token_at (y ∷ ys) kind n le h = token_sound y (ys ++ 41 ∷ other) kind n (front_kept (y ∷ ys) (kind, n) (token_found (y ∷ (ys ++ 41 ∷ rest)) kind n h) le)

  closing_at : (kind : TokenKind) (n : ℕ) → LongestToken (41 ∷ rest) kind n → LongestToken (41 ∷ other) kind n
  unfolding front_of
  closing_at kind n h = token_sound 41 other kind n (token_found (41 ∷ rest) kind n h)

-- what is read in front of the parenthesis
pub reads_before : (front rest other : List ℕ) (place : ℕ) (t : Token) (after : ℕ) → Reads (front ++ 41 ∷ rest) place (Ok (Some t)) after → after ≤ length front → Reads (front ++ 41 ∷ other) place (Ok (Some t)) after
reads_before front rest other place t after (n, gap, (start, m, longest, end, behind)) le =
    let here : place + n ≤ length front = omega arith in
    let gap_here = subst (λ (bs : List ℕ). LongestGap bs n) (drop-append-le place front (41 ∷ rest) (omega arith)) gap in
    let token_here = subst (λ (bs : List ℕ). LongestToken bs t.kind m) (drop-append-le (place + n) front (41 ∷ rest) here) longest in
    let gap_there = gap_at rest other (drop place front) n (omega (arith, length-drop place front)) gap_here in
    let token_there = token_at rest other (drop (place + n) front) t.kind m (omega (arith, length-drop (place + n) front)) token_here in (
      n,
      subst (λ (bs : List ℕ). LongestGap bs n) (sym (drop-append-le place front (41 ∷ other) (omega arith))) gap_there,
      (start, m, subst (λ (bs : List ℕ). LongestToken bs t.kind m) (sym (drop-append-le (place + n) front (41 ∷ other) here)) token_there, end, behind),
    )

-- the parenthesis
pub reads_closing : (front rest other : List ℕ) (place : ℕ) (t : Token) (after : ℕ) → Reads (front ++ 41 ∷ rest) place (Ok (Some t)) after → t.start ≡ length front → Reads (front ++ 41 ∷ other) place (Ok (Some t)) after
reads_closing front rest other place t after (n, gap, (start, m, longest, end, behind)) e =
    let here : place + n ≡ length front = omega arith in
    let at : (zs : List ℕ) → drop (place + n) (front ++ zs) ≡ zs = λ zs. drop_at front zs (place + n) (sym here) in
    let gap_here = subst (λ (bs : List ℕ). LongestGap bs n) (drop-append-le place front (41 ∷ rest) (omega arith)) gap in
    let token_here = subst (λ (bs : List ℕ). LongestToken bs t.kind m) (at (41 ∷ rest)) longest in
    let gap_there = gap_at rest other (drop place front) n (omega (arith, length-drop place front)) gap_here in
    let token_there = closing_at rest other t.kind m token_here in (
      n,
      subst (λ (bs : List ℕ). LongestGap bs n) (sym (drop-append-le place front (41 ∷ other) (omega arith))) gap_there,
      (start, m, subst (λ (bs : List ℕ). LongestToken bs t.kind m) (sym (at (41 ∷ other))) token_there, end, behind),
    )
