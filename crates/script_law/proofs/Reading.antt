-- The commands of a text that was printed are read from it.
use Rattle.std.proofs.Common.{◌≡◌, ◌∙◌, refl, sym, ap, subst, arith, ℕ, zero, suc, ◌+◌, ◌-◌, ◌<◌, true, false, List, [], ◌∷◌, ◌++◌, length, take, drop, Option, Some, Result, Ok}
use Rattle.std.proofs.lemmas.List.{append_assoc, length-append, drop_at}
use Rattle.std.proofs.Math.Seq.{take-append-add}
use Rattle.smt_lex.specs.declared.token.Token.{Token}
use Rattle.smt_lex.specs.declared.token.LexError.{LexError}
use Rattle.smt_lex.specs.Bytes.{is_space}
use Rattle.smt_lex.specs.Grammar.{is_gap, LongestGap, ReadsBehind, Reads}
use Rattle.smt_sexpr.specs.Tree.{Sexpr, leaf, list}
use Rattle.smt_sexpr.specs.Reading.{Spells}
use Rattle.smt_sexpr.specs.Printing.{text_of}
use Rattle.smt_sexpr.specs.Laws.{SexprReadsBack}
use Rattle.job_shop.specs.Scripts.{each, line_of, lines_of, exit}
use Rattle.script_law.specs.Told.{IsLine, AreLines, IsRead}

-- ---- what stands behind a line feed is read in front of it

gap_more : (rest : List ℕ) (n : ℕ) → LongestGap rest n → LongestGap (10 ∷ rest) (1 + n)
unfolding is_gap is_space
gap_more rest n h = record {
  within = omega (arith, h.within);
  gap = ap (is_gap false) (take-append-add (10 ∷ []) rest n) ∙ h.gap;
  longest = λ m more within all.
      let same : 1 + (m - 1) ≡ m = omega arith in
      let inside : is_gap false (take (m - 1) rest) ≡ true = ap (is_gap false) (sym (take-append-add (10 ∷ []) rest (m - 1))) ∙ ap (λ (k : ℕ). is_gap false (take k (10 ∷ rest))) same ∙ all in
      h.longest (m - 1) (omega arith) (omega (arith, within)) inside;
}

module _ (bytes : List ℕ) (place : ℕ) (same : drop place bytes ≡ 10 ∷ drop (place + 1) bytes) where
  reads_before : (r : Result (Option Token) LexError) (after : ℕ) → Reads bytes (place + 1) r after → Reads bytes place r after
  reads_before r after (n, longest, behind) =
      let at : place + 1 + n ≡ place + (1 + n) = omega arith in (
        1 + n,
        subst (λ (text : List ℕ). LongestGap text (1 + n)) (sym same) (gap_more (drop (place + 1) bytes) n longest),
        subst (λ (start : ℕ). ReadsBehind bytes start r after) at behind,
      )

  spells_before : (x : Sexpr) (after : ℕ) → Spells bytes (place + 1) x after → Spells bytes place x after
  unfolding Spells
  spells_before (leaf kind text) after (t, p, tk, l, r, is) = (t, reads_before (Ok (Some t)) after p, tk, l, r, is)
  spells_before (list xs) after (opening, mid, last, closing, p, l, each, c, k) = (opening, mid, last, closing, reads_before (Ok (Some opening)) mid p, l, each, c, k)

-- ---- lines

pub lines_append : (xs ys : List Sexpr) → AreLines xs → AreLines ys → AreLines (xs ++ ys)
lines_append [] ys h k = k
lines_append (x ∷ xs) ys h k = (h.0, lines_append xs ys h.1 k)

pub lines_each : (count : ℕ) (items : ℕ → List Sexpr) → ((i : ℕ) → i < count → AreLines (items i)) → AreLines (each count items)
lines_each zero items h = tt
lines_each (suc count) items h =
    lines_append (each count items) (items count) (lines_each count items (λ i l. h i (omega arith))) (h count (omega arith))

line_parts : (x : Sexpr) (rest : List ℕ) → line_of x ++ rest ≡ text_of x ++ (10 ∷ rest)
line_parts x rest = append_assoc (text_of x) (10 ∷ []) rest

module _ (back : SexprReadsBack) where
  spelled : (x : Sexpr) → IsLine x → (before after : List ℕ) → Spells (before ++ (line_of x ++ after)) (length before) x (length before + length (text_of x))
  spelled x is before after =
      subst (λ (bytes : List ℕ). Spells bytes (length before) x (length before + length (text_of x)))
      (ap (λ (t : List ℕ). before ++ t) (sym (line_parts x after))) (back x before (10 ∷ after) is.0 (is.1 (10 ∷ after)))

  line_back : (x : Sexpr) → IsLine x → (bytes before rest : List ℕ) (place : ℕ) → bytes ≡ before ++ (10 ∷ (line_of x ++ rest)) → place ≡ length before → Spells bytes place x (place + 1 + length (text_of x))
  line_back x is bytes before rest place e p =
      let opened = before ++ 10 ∷ [] in
      let grouped : (before ++ 10 ∷ []) ++ (line_of x ++ rest) ≡ bytes = append_assoc before (10 ∷ []) (line_of x ++ rest) ∙ sym e in
      let count : length (before ++ 10 ∷ []) ≡ place + 1 = omega (arith, length-append before (10 ∷ [])) in
      let here : Spells bytes (place + 1) x (place + 1 + length (text_of x)) = subst (λ (k : ℕ). Spells bytes k x (k + length (text_of x))) count (subst (λ (text : List ℕ). Spells text (length (before ++ 10 ∷ [])) x (length (before ++ 10 ∷ []) + length (text_of x))) grouped (spelled x is (before ++ 10 ∷ []) rest)) in
      let first : drop place bytes ≡ 10 ∷ (line_of x ++ rest) = ap (drop place) e ∙ drop_at before (10 ∷ (line_of x ++ rest)) place (sym p) in
      let second : drop (place + 1) bytes ≡ line_of x ++ rest = ap (drop (place + 1)) (sym grouped) ∙ drop_at (before ++ 10 ∷ []) (line_of x ++ rest) (place + 1) count in
      let same : drop place bytes ≡ 10 ∷ drop (place + 1) bytes = first ∙ ap (λ (text : List ℕ). 10 ∷ text) (sym second) in
      spells_before bytes place same x (place + 1 + length (text_of x)) here

  lines_back : (xs : List Sexpr) → AreLines xs → (bytes before : List ℕ) (place : ℕ) → bytes ≡ before ++ (10 ∷ lines_of xs) → place ≡ length before → IsRead bytes place xs
  lines_back [] are bytes before place e p = record { here = place; reads = refl; left = ap (drop place) e ∙ drop_at before (10 ∷ []) place (sym p) }
  lines_back (x ∷ xs) are bytes before place e p =
      let count : place + 1 + length (text_of x) ≡ length (before ++ (10 ∷ text_of x)) = omega (arith, length-append before (10 ∷ text_of x)) in
      let grouped : bytes ≡ (before ++ (10 ∷ text_of x)) ++ (10 ∷ lines_of xs) =
      e ∙ ap (λ (text : List ℕ). before ++ (10 ∷ text)) (line_parts x (lines_of xs)) ∙ sym (append_assoc before (10 ∷ text_of x) (10 ∷ lines_of xs)) in
      let others = lines_back xs are.1 bytes (before ++ (10 ∷ text_of x)) (place + 1 + length (text_of x)) grouped count in
      record {
        here = others.here;
        reads = (place + 1 + length (text_of x), line_back x are.0 bytes before (lines_of xs) place e p, others.reads);
        left = others.left;
      }

  pub text_back : (x : Sexpr) (xs : List Sexpr) → AreLines (x ∷ xs) → IsRead (lines_of (x ∷ xs)) 0 (x ∷ xs)
  text_back x xs are =
      let others = lines_back xs are.1 (lines_of (x ∷ xs)) (text_of x) (length (text_of x)) (line_parts x (lines_of xs)) refl in
      let first : Spells (lines_of (x ∷ xs)) 0 x (0 + length (text_of x)) = spelled x are.0 [] (lines_of xs) in
      record {
        here = others.here;
        reads = (length (text_of x), subst (λ (k : ℕ). Spells (lines_of (x ∷ xs)) 0 x k) (omega arith) first, others.reads);
        left = others.left;
      }

  done_back : (done : List Sexpr) (ask : Sexpr) → AreLines (done ++ (ask ∷ exit ∷ [])) → IsRead (lines_of (done ++ (ask ∷ exit ∷ []))) 0 (done ++ (ask ∷ exit ∷ []))
  done_back [] ask are = text_back ask (exit ∷ []) are
  done_back (x ∷ done) ask are = text_back x (done ++ (ask ∷ exit ∷ [])) are

  pub script_back : (script : List ℕ) (done : List Sexpr) (ask : Sexpr) → script ≡ lines_of (done ++ (ask ∷ exit ∷ [])) → AreLines (done ++ (ask ∷ exit ∷ [])) → IsRead script 0 (done ++ (ask ∷ exit ∷ []))
  script_back script done ask text lines = subst (λ (bytes : List ℕ). IsRead bytes 0 (done ++ (ask ∷ exit ∷ []))) (sym text) (done_back done ask lines)
