-- Cited assumptions, one after the other.
use Rattle.std.proofs.Common.{arith, refl, sym, ap, ◌∙◌, ◌≡◌, ◌≤◌, ◌+◌, ℕ, zero, suc, List, [], ◌∷◌, ◌++◌, length, drop, map, slice_get, Bool, true, false, Option, Some, None, option_map, codes}
use Rattle.std.specs.Borrow.{Bor}
use Rattle.std.specs.Slice.{IsGetResult}
use Rattle.std.proofs.lemmas.List.{append_assoc}
use Rattle.std.proofs.lemmas.Option.{slice_get_past, slice_get-get_or}
use Rattle.smt_sexpr.specs.Tree.{Sexpr, Items, list, none, more}
use Rattle.smt_lex.specs.Bytes.{is_symbol_byte}
use Rattle.smt_lex.specs.declared.token.TokenKind.TheVariants.{Symbol}
use Rattle.smt_sexpr.specs.Printing.{text_of, written}
use Rattle.smt_sexpr.specs.Shapes.{items_of}
use Rattle.smt_script.specs.code.Kept.{literal_sexpr}
use Rattle.smt_script.specs.code.Shapes.{shown_literal}
use Rattle.smt_script.specs.declared.assumption.AssumedLiteral.{AssumedLiteral}
use Rattle.smt_answer.specs.Texts.{with_item, cited_items, assumptions_line}
use Rattle.smt_answer.specs.code.Answers.{items_text, items_to_come, with_found, found_literal, is_marked}
use Rattle.smt_answer.proofs.Cores.{marked_within}

pub found_is : (ls : List AssumedLiteral) (i : ℕ) (r : Option (Bor AssumedLiteral)) → IsGetResult ls i i r → found_literal r ≡ option_map shown_literal (slice_get ls i)
found_is ls i None h = ap (option_map shown_literal) (sym (slice_get_past ls i h.3))
found_is ls i (Some l) h = ap (option_map shown_literal) (sym (slice_get-get_or ls i l.now h.3.0 ∙ ap (λ (k : AssumedLiteral). Some k) (sym h.1)))

-- one that is negated
pub negated_text : (name : List ℕ) (b : Bool) → b ≡ true → text_of (literal_sexpr name b) ≡ codes "(not " ++ (written Symbol name ++ codes ")")
unfolding is_symbol_byte
negated_text name true e = refl
negated_text name false e = absurd cc

pub put_together : (old a b c n : List ℕ) → a ≡ old ++ codes "(not " → b ≡ a ++ n → c ≡ b ++ codes ")" → c ≡ old ++ (codes "(not " ++ (n ++ codes ")"))
put_together old a b c n first second third =
    third ∙ ap (λ (t : List ℕ). t ++ codes ")") (second ∙ ap (λ (t : List ℕ). t ++ n) first)
    ∙ append_assoc (old ++ codes "(not ") n (codes ")") ∙ append_assoc old (codes "(not ") (n ++ codes ")")

-- in front of others, where it is cited and there
abbrev item_at : Bool → Option Sexpr → Items → Items
item_at true found xs = with_found found xs
item_at false found xs = xs

none_there : (b : Bool) → item_at b None none ≡ none
none_there true = refl
none_there false = refl

one_there : (b : Bool) (x : Sexpr) (xs : Items) → with_item b x xs ≡ item_at b (Some x) xs
one_there true x xs = refl
one_there false x xs = refl

abbrev from : ℕ → List AssumedLiteral → Items
from n ls = items_of (map shown_literal (drop n ls))

items_step : (cited : ℕ → Bool) (number n : ℕ) (ls : List AssumedLiteral)
    → cited_items cited number (from n ls) ≡ item_at (cited number) (option_map shown_literal (slice_get ls n)) (cited_items cited (suc number) (from (suc n) ls))
items_step cited number zero [] = sym (none_there (cited number))
items_step cited number (suc n) [] = sym (none_there (cited number))
items_step cited number zero (l ∷ ls) = one_there (cited number) (shown_literal l) (cited_items cited (suc number) (items_of (map shown_literal ls)))
items_step cited number (suc n) (l ∷ ls) = items_step cited number n ls

items_next : (cited : ℕ → Bool) (i : ℕ) (ls : List AssumedLiteral)
    → cited_items cited i (from i ls) ≡ item_at (cited i) (option_map shown_literal (slice_get ls i)) (cited_items cited (i + 1) (from (i + 1) ls))
items_next cited i ls =
    let next : suc i ≡ i + 1 = omega arith in
    items_step cited i i ls ∙ ap (λ (m : ℕ). item_at (cited i) (option_map shown_literal (slice_get ls i)) (cited_items cited m (from m ls))) next

items_none : (cited : ℕ → Bool) (number : ℕ) (xs : Items) → ((k : ℕ) → number ≤ k → cited k ≡ false) → cited_items cited number xs ≡ none
items_none cited number none h = refl
items_none cited number (more x xs) h =
    ap (λ (b : Bool). with_item b x (cited_items cited (suc number) xs)) (h number (omega arith))
    ∙ items_none cited (suc number) xs (λ k le. h k (omega arith))

module _ (marks : List Bool) (ls : List AssumedLiteral) (whole : List ℕ) where
  -- what is written and what is to come is the whole list
  abbrev pub IsWrittenTo : List ℕ → Bool → ℕ → Type 0
  IsWrittenTo out first i = out ++ items_to_come first (cited_items (is_marked marks) i (from i ls)) ≡ whole

  pub written_more : (out now : List ℕ) (first next : Bool) (i : ℕ) (r : Option (Bor AssumedLiteral)) → IsGetResult ls i i r → is_marked marks i ≡ true
      → ((items : Items) → now ++ items_to_come next items ≡ out ++ items_to_come first (with_found (found_literal r) items)) → IsWrittenTo out first i → IsWrittenTo now next (i + 1)
  written_more out now first next i r is marked h before =
      let rest : Items = cited_items (is_marked marks) (i + 1) (from (i + 1) ls) in
      h rest
      ∙ ap (λ (o : Option Sexpr). out ++ items_to_come first (with_found o rest)) (found_is ls i r is)
      ∙ ap (λ (b : Bool). out ++ items_to_come first (item_at b (option_map shown_literal (slice_get ls i)) rest)) (sym marked)
      ∙ ap (λ (items : Items). out ++ items_to_come first items) (sym (items_next (is_marked marks) i ls))
      ∙ before

  pub written_not : (out : List ℕ) (first : Bool) (i : ℕ) → is_marked marks i ≡ false → IsWrittenTo out first i → IsWrittenTo out first (i + 1)
  written_not out first i unmarked before =
      let rest : Items = cited_items (is_marked marks) (i + 1) (from (i + 1) ls) in
      ap (λ (b : Bool). out ++ items_to_come first (item_at b (option_map shown_literal (slice_get ls i)) rest)) (sym unmarked)
      ∙ ap (λ (items : Items). out ++ items_to_come first items) (sym (items_next (is_marked marks) i ls))
      ∙ before

  pub written_all : (out : List ℕ) (first : Bool) (i : ℕ) → length marks ≤ i → IsWrittenTo out first i → out ++ items_to_come first none ≡ whole
  written_all out first i all before =
      ap (λ (items : Items). out ++ items_to_come first items) (sym (items_none (is_marked marks) i (from i ls) (λ k le. marked_within marks k (omega arith)))) ∙ before

ends_list : (first : Bool) → items_to_come first none ≡ codes ")"
ends_list true = refl
ends_list false = refl

pub list_closed : (old out : List ℕ) (first : Bool) (xs : Items) → out ++ items_to_come first none ≡ old ++ text_of (list xs) → out ++ codes ")\n" ≡ old ++ assumptions_line xs
list_closed old out first xs is =
    sym (append_assoc out (codes ")") (codes "\n"))
    ∙ ap (λ (t : List ℕ). (out ++ t) ++ codes "\n") (sym (ends_list first))
    ∙ ap (λ (t : List ℕ). t ++ codes "\n") is
    ∙ append_assoc old (text_of (list xs)) (codes "\n")

-- by the same tests the same assumptions
pub items_same : (f g : ℕ → Bool) → ((r : ℕ) → f r ≡ g r) → (number : ℕ) (xs : Items) → cited_items f number xs ≡ cited_items g number xs
items_same f g h number none = refl
items_same f g h number (more x xs) =
    ap (λ (b : Bool). with_item b x (cited_items f (suc number) xs)) (h number)
    ∙ ap (λ (items : Items). with_item (g number) x items) (items_same f g h (suc number) xs)
