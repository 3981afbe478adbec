-- Where a symbol of a text stands, its bytes stand.
use Rattle.std.proofs.Common.{refl, sym, ap, arith, ◌∙◌, ◌≡◌, ◌<◌, ◌+◌, ◌-◌, ◌==◌, ℕ, suc, List, [], ◌∷◌, length, take, drop, get_or, Bool, true, false, Some}
use Rattle.std.specs.Prelude.{if◌then◌else◌}
use Rattle.std.proofs.lemmas.List.{get_or-take, get_or-drop, length-take, length-drop}
use Rattle.bstr.specs.Text.{Contains}
use Rattle.smt_lex.specs.Symbols.{symbol_content}
use Rattle.smt_lex.specs.declared.token.TokenKind.TheVariants.{Symbol}
use Rattle.smt_sexpr.specs.Tree.{Sexpr, leaf, list, symbol_of}
use Rattle.smt_sexpr.specs.Reading.{Spells}
use Rattle.cert_read.proofs.OnlyForms.{some_same, none_some}

module _ (bytes word : List ℕ) (some : 0 < length word) (s n : ℕ) where
  -- a front of what begins at s
  plain : (raw : List ℕ) → raw ≡ take n (drop s bytes) → raw ≡ word → Contains bytes word
  plain raw e is =
      let long : length word ≡ length (take n (drop s bytes)) = ap (λ (w : List ℕ). length w) (sym is ∙ e) in
      let taken = length-take n (drop s bytes) in
      let dropped = length-drop s bytes in (
        s,
        record {
          fits = omega (arith, some, long, taken, dropped);
          reads = λ j less. (
              sym (get_or-drop s bytes j 0) ∙ sym (get_or-take n (drop s bytes) j 0 (omega (arith, less, long, taken)))
              ∙ ap (λ (w : List ℕ). get_or w j 0) (sym e ∙ is)
              );
        },
      )

  -- the same between two more bytes
  barred : (b : ℕ) (rest : List ℕ) → b ∷ rest ≡ take n (drop s bytes) → take (length rest - 1) rest ≡ word → Contains bytes word
  barred b rest e is =
      let long : length (b ∷ rest) ≡ length (take n (drop s bytes)) = ap (λ (w : List ℕ). length w) e in
      let short : length word ≡ length (take (length rest - 1) rest) = ap (λ (w : List ℕ). length w) (sym is) in
      let taken = length-take n (drop s bytes) in
      let dropped = length-drop s bytes in
      let inside = length-take (length rest - 1) rest in (
        s + 1,
        record {
          fits = omega (arith, some, long, short, taken, dropped, inside);
          reads = λ j less. (
              let there : s + 1 + j ≡ s + (suc j) = omega arith in
              ap (λ (k : ℕ). get_or bytes k 0) there
              ∙ sym (get_or-drop s bytes (suc j) 0) ∙ sym (get_or-take n (drop s bytes) (suc j) 0 (omega (arith, less, long, short, taken, inside)))
              ∙ ap (λ (w : List ℕ). get_or w (suc j) 0) (sym e)
              ∙ sym (get_or-take (length rest - 1) rest j 0 (omega (arith, less, short, inside))) ∙ ap (λ (w : List ℕ). get_or w j 0) is
              );
        },
      )

  by_bar : (test : Bool) (b : ℕ) (rest : List ℕ) → b ∷ rest ≡ take n (drop s bytes) → (if test then take (length rest - 1) rest else b ∷ rest) ≡ word → Contains bytes word
  by_bar true b rest e is = barred b rest e is
  by_bar false b rest e is = plain (b ∷ rest) e is

  content_there : (raw : List ℕ) → raw ≡ take n (drop s bytes) → symbol_content raw ≡ word → Contains bytes word
  unfolding symbol_content
  content_there [] e is = plain [] e is
  content_there (b ∷ rest) e is = by_bar (b == 124) b rest e is

pub symbol_there : (bytes word : List ℕ) → 0 < length word → (place : ℕ) (x : Sexpr) (after : ℕ) → Spells bytes place x after → symbol_of x ≡ Some word → Contains bytes word
unfolding Spells
symbol_there bytes word some place (leaf Symbol text) after (token, reads, kind, left, right, is) e =
    content_there bytes word some token.start (token.end - token.start) (take (token.end - token.start) (drop token.start bytes)) refl (is ∙ some_same text word e)
symbol_there bytes word some place (leaf other text) after spells e = absurd (none_some word e)
symbol_there bytes word some place (list xs) after spells e = absurd (none_some word e)
