-- Which clauses of the book are clauses of a problem.
use Rattle.std.proofs.Common.{arith, ◌≡◌, ℕ, ◌+◌, inl, inr, List, [], ◌∷◌, ◌++◌, take, Option, Some, None, Bool, true, false, Contains, refl, sym, ap, subst, ◌∙◌}
use Rattle.std.specs.Prelude.{slice_get, MatchOption, ◌==◌, cond}
use Rattle.std.proofs.lemmas.Bool.{eqb-true, eq-eqb}
use Rattle.std.proofs.lemmas.List.Elements.{Contains-push_cases}
use Rattle.std.proofs.lemmas.Option.{same_Some}
use Rattle.stn_core.specs.declared.literal.Literal.{Literal}
use Rattle.lemma_shelf.specs.code.Tables.{IsPresent}
use Rattle.lemma_shelf.proofs.Lists.{take_more, at_contained}

module _ (book clauses : List (List Literal)) where
  pub present_none : (place : ℕ → Option ℕ) → ((q : ℕ) → place q ≡ None) → IsPresent book clauses [] place
  present_none place none_ number clause at = rw (none_ number) (λ h. absurd (omega (arith, h.1)))

  module _ (i : ℕ) (c : List Literal) (here : slice_get clauses i ≡ Some c) (before : ℕ → Option ℕ) (so_far : IsPresent book clauses (take i clauses) before) where
    abbrev Tells : List (List Literal) → List Literal → Option ℕ → Type 0
    Tells seen clause found = MatchOption found (Contains seen clause → ⊥) (λ k. slice_get clauses k ≡ Some clause)

    -- another clause is told as before
    other : (clause : List Literal) (found : Option ℕ) → (c ≡ clause → ⊥) → Tells (take i clauses) clause found → Tells (take (i + 1) clauses) clause found
    other clause None differ h = λ in_. (let in_more : Contains (take i clauses ++ c ∷ []) clause = subst (λ (xs : List (List Literal)). Contains xs clause) (take_more clauses i c here) in_ in elim (Contains-push_cases (take i clauses) c clause in_more) [ inl old ↦ h old | inr new ↦ differ new ])
    other clause (Some k) differ h = h

    pub present_same : (Contains book c → ⊥) → IsPresent book clauses (take (i + 1) clauses) before
    present_same absent number clause at =
        other clause (before number) (λ e. absent (subst (Contains book) (sym e) (at_contained book number clause at))) (so_far number clause at)

    pub present_added : (m : ℕ) (now : ℕ → Option ℕ) → ((n : ℕ) → slice_get book n ≡ Some c → Some m ≡ Some n) → slice_get book m ≡ Some c → ((q : ℕ) → now q ≡ cond (m == q) (Some i) (before q)) → IsPresent book clauses (take (i + 1) clauses) now
    present_added m now once is updates number clause at = by (m == number) refl
      where
        by : (b : Bool) → (m == number) ≡ b → Tells (take (i + 1) clauses) clause (now number)
        by true e =
            let same : m ≡ number = eqb-true m number e in
            let clause_is : c ≡ clause = same_Some c clause (sym is ∙ ap (slice_get book) same ∙ at) in
            let found : now number ≡ Some i = updates number ∙ ap (λ (b : Bool). cond b (Some i) (before number)) e in
            subst (Tells (take (i + 1) clauses) clause) (sym found) (here ∙ ap (λ (z : List Literal). Some z) clause_is)
        by false e =
            let found : now number ≡ before number = updates number ∙ ap (λ (b : Bool). cond b (Some i) (before number)) e in
            let differ : c ≡ clause → ⊥ = λ s. (let same : m ≡ number = same_Some m number (once number (at ∙ ap (λ (z : List Literal). Some z) (sym s))) in let yes : (m == number) ≡ true = eq-eqb m number same in absurd (cc)) in
            subst (Tells (take (i + 1) clauses) clause) (sym found) (other clause (before number) differ (so_far number clause at))
