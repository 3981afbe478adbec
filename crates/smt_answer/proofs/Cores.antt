-- The names of a core, one after the other.
use Rattle.std.proofs.Common.{arith, refl, sym, ap, ◌∙◌, ◌≡◌, ◌≤◌, ◌+◌, ℕ, zero, suc, List, [], ◌∷◌, ◌++◌, length, drop, get_or, Bool, true, false, Option, None}
use Rattle.smt_answer.specs.Texts.{with_name, cited_names, names_text}
use Rattle.smt_answer.specs.code.Answers.{names_to_come, is_marked}

none_named : (b : Bool) (names : List (List ℕ)) → with_name b None names ≡ names
none_named true names = refl
none_named false names = refl

-- behind the last label there is none
names_step : (cited : ℕ → Bool) (number n : ℕ) (labels : List (Option (List ℕ)))
    → cited_names cited number (drop n labels) ≡ with_name (cited number) (get_or labels n None) (cited_names cited (suc number) (drop (suc n) labels))
names_step cited number zero [] = sym (none_named (cited number) [])
names_step cited number (suc n) [] = sym (none_named (cited number) [])
names_step cited number zero (label ∷ labels) = refl
names_step cited number (suc n) (label ∷ labels) = names_step cited number n labels

names_next : (cited : ℕ → Bool) (i : ℕ) (labels : List (Option (List ℕ)))
    → cited_names cited i (drop i labels) ≡ with_name (cited i) (get_or labels i None) (cited_names cited (i + 1) (drop (i + 1) labels))
names_next cited i labels =
    let next : suc i ≡ i + 1 = omega arith in
    names_step cited i i labels ∙ ap (λ (m : ℕ). with_name (cited i) (get_or labels i None) (cited_names cited m (drop m labels))) next

names_none : (cited : ℕ → Bool) (number : ℕ) (labels : List (Option (List ℕ))) → ((k : ℕ) → number ≤ k → cited k ≡ false) → cited_names cited number labels ≡ []
names_none cited number [] h = refl
names_none cited number (label ∷ labels) h =
    ap (λ (b : Bool). with_name b label (cited_names cited (suc number) labels)) (h number (omega arith))
    ∙ names_none cited (suc number) labels (λ k le. h k (omega arith))

pub marked_within : (marks : List Bool) (k : ℕ) → length marks ≤ k → is_marked marks k ≡ false
marked_within [] k le = refl
marked_within (b ∷ marks) zero le = absurd (omega arith)
marked_within (b ∷ marks) (suc k) le = marked_within marks k (omega arith)

module _ (marks : List Bool) (labels : List (Option (List ℕ))) (whole : List ℕ) where
  -- what is written and what is to come is the whole line
  abbrev pub IsNamedTo : List ℕ → Bool → ℕ → Type 0
  IsNamedTo out first i = out ++ names_to_come first (cited_names (is_marked marks) i (drop i labels)) ≡ whole

  pub named_more : (out now : List ℕ) (first next : Bool) (i : ℕ) (label : Option (List ℕ)) → label ≡ get_or labels i None → is_marked marks i ≡ true
      → ((names : List (List ℕ)) → now ++ names_to_come next names ≡ out ++ names_to_come first (with_name true label names)) → IsNamedTo out first i → IsNamedTo now next (i + 1)
  named_more out now first next i label is marked h before =
      let rest : List (List ℕ) = cited_names (is_marked marks) (i + 1) (drop (i + 1) labels) in
      h rest
      ∙ ap (λ (l : Option (List ℕ)). out ++ names_to_come first (with_name true l rest)) is
      ∙ ap (λ (b : Bool). out ++ names_to_come first (with_name b (get_or labels i None) rest)) (sym marked)
      ∙ ap (λ (names : List (List ℕ)). out ++ names_to_come first names) (sym (names_next (is_marked marks) i labels))
      ∙ before

  pub named_not : (out : List ℕ) (first : Bool) (i : ℕ) → is_marked marks i ≡ false → IsNamedTo out first i → IsNamedTo out first (i + 1)
  named_not out first i unmarked before =
      let rest : List (List ℕ) = cited_names (is_marked marks) (i + 1) (drop (i + 1) labels) in
      ap (λ (b : Bool). out ++ names_to_come first (with_name b (get_or labels i None) rest)) (sym unmarked)
      ∙ ap (λ (names : List (List ℕ)). out ++ names_to_come first names) (sym (names_next (is_marked marks) i labels))
      ∙ before

  pub named_all : (out : List ℕ) (first : Bool) (i : ℕ) → length marks ≤ i → IsNamedTo out first i → out ++ names_to_come first [] ≡ whole
  named_all out first i all before =
      ap (λ (names : List (List ℕ)). out ++ names_to_come first names) (sym (names_none (is_marked marks) i (drop i labels) (λ k le. marked_within marks k (omega arith)))) ∙ before

pub ends_line : (first : Bool) → names_to_come first [] ≡ names_text []
ends_line true = refl
ends_line false = refl

-- by the same tests the same names
pub names_same : (f g : ℕ → Bool) → ((r : ℕ) → f r ≡ g r) → (number : ℕ) (labels : List (Option (List ℕ))) → cited_names f number labels ≡ cited_names g number labels
names_same f g h number [] = refl
names_same f g h number (label ∷ labels) =
    ap (λ (b : Bool). with_name b label (cited_names f (suc number) labels)) (h number)
    ∙ ap (λ (names : List (List ℕ)). with_name (g number) label names) (names_same f g h (suc number) labels)
