-- Clauses that hold, up to a place, and the first that doesn't.
use Rattle.std.proofs.Common.{arith, ◌≡◌, ◌<◌, ◌≤◌, ◌+◌, ℕ, zero, suc, List, [], ◌∷◌, length, take, get_or, Bool, true, false, All, ℤ, refl, ap, ◌∙◌, subst}
use Rattle.std.specs.Prelude.{IsTrue, ◌↔◌}
use Rattle.std.proofs.lemmas.Bool.{iff_false}
use Rattle.std.proofs.lemmas.List.Elements.{All-more, All-contains}
use Rattle.stn_core.specs.declared.literal.Literal.{Literal}
use Rattle.stn_core.specs.Literal.{Holds}
use Rattle.stn_core.specs.Problem.{ClauseHolds, ProblemHolds}

take_past : {A : Type 0} (n : ℕ) (xs : List A) → length xs ≤ n → take n xs ≡ xs
take_past zero [] le = refl
take_past zero (x ∷ xs) le = absurd (omega arith)
take_past (suc n) [] le = refl
take_past {A = A} (suc n) (x ∷ xs) le = ap (λ (ys : List A). x ∷ ys) (take_past n xs (omega arith))

abbrev Fails : List ℤ → Literal → Type 0
Fails values l = ¬ Holds values l

pub one_more_fails : (values : List ℤ) (clause : List Literal) (i : ℕ) (d : Literal) (b : Bool) → All (Fails values) (take i clause) → i < length clause → (IsTrue b ↔ Holds values (get_or clause i d)) → b ≡ false → All (Fails values) (take (i + 1) clause)
one_more_fails values clause i d b all lt exact e = All-more (Fails values) clause i d lt all (λ h. iff_false exact e h)

pub none_holds : (values : List ℤ) (clause : List Literal) (i : ℕ) → All (Fails values) (take i clause) → length clause ≤ i → IsTrue false ↔ ClauseHolds values clause
none_holds values clause i all le = (λ e. absurd (cc), λ h. absurd (none h))
  where
    none : ClauseHolds values clause → ⊥
    none h =
        let every : All (Fails values) clause = subst (All (Fails values)) (take_past i clause le) all in
        All-contains (Fails values) clause h.0 every h.1 h.2

-- a clause as the code reads it, with the values as it reads them
module _ (values read : List ℤ) (clauses items : List (List Literal)) (i : ℕ) (clause given : List Literal) (b : Bool)
    (same_values : read ≡ values) (same_items : items ≡ clauses) (lt : i < length items) (is : clause ≡ get_or items i clause) (same : given ≡ clause) (exact : IsTrue b ↔ ClauseHolds read given) where
  within : i < length clauses
  within = subst (λ (cs : List (List Literal)). i < length cs) same_items lt

  given_is : given ≡ get_or clauses i clause
  given_is = same ∙ is ∙ ap (λ (cs : List (List Literal)). get_or cs i clause) same_items

  here : (IsTrue b → ClauseHolds values (get_or clauses i clause)) × (ClauseHolds values (get_or clauses i clause) → IsTrue b)
  here = subst (λ (c : List Literal). (IsTrue b → ClauseHolds values c) × (ClauseHolds values c → IsTrue b)) given_is (subst (λ (v : List ℤ). (IsTrue b → ClauseHolds v given) × (ClauseHolds v given → IsTrue b)) same_values exact)

  pub one_more_holds : All (ClauseHolds values) (take i clauses) → b ≡ true → All (ClauseHolds values) (take (i + 1) clauses)
  one_more_holds all e = All-more (ClauseHolds values) clauses i clause within all (here.0 e)

  pub not_all_hold : b ≡ false → (false ≡ true → ProblemHolds values clauses) × (ProblemHolds values clauses → false ≡ true)
  not_all_hold e = (λ f. absurd (cc), λ h. absurd (iff_false here e (h i clause within)))

pub all_hold : (values : List ℤ) (clauses items : List (List Literal)) (i : ℕ) → items ≡ clauses → All (ClauseHolds values) (take i clauses) → length items ≤ i → (true ≡ true → ProblemHolds values clauses) × (ProblemHolds values clauses → true ≡ true)
all_hold values clauses items i same all le =
    let all_of : length clauses ≤ i = subst (λ (cs : List (List Literal)). length cs ≤ i) same le in
    (λ e. subst (All (ClauseHolds values)) (take_past i clauses all_of) all, λ h. refl)
