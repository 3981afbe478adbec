-- A clash that is written out names the same clause.
use Rattle.std.proofs.Common.{◌≡◌, ◌||◌, ◌∙◌, ℕ, suc, Bool, true, false, List, [], ◌∷◌, map, Some, refl, ap}
use Rattle.std.specs.Prelude.{Option, None, slice_get}
use Rattle.std.specs.List.{list_any}
use Rattle.std.proofs.lemmas.List.Folds.{list_any-append}
use Rattle.stn_core.specs.declared.literal.Literal.{Literal}
use Rattle.refute_tree.specs.declared.step.Step.{Step}
use Rattle.refute_tree.specs.declared.step.Step.TheVariants.{Cycle, Input, Lemma as Earlier, Clash, Either}
use Rattle.refute_tree.specs.declared.lemma.Lemma.{Lemma}
use Rattle.refute_tree.specs.Pairs.{pair_of}
use Rattle.refute_tree.specs.Lengths.{pair_step, written_out, lengthened_step, lengthened, lengthened_lemma}
use Rattle.unsat_cores.specs.Cited.{names_clause, cites_lemma, some_marked, is_needed, needed_from, cites_clause}

or_none : (a : Bool) → (a || false) ≡ a
or_none true = refl
or_none false = refl

-- a clash passes the test where the input step does, and a cycle doesn't
record IsOfClauses (test : Step → Bool) : Type 0 where
  pub clash_is : (i : ℕ) → test (Input i) ≡ test (Clash i)
  pub cycle_is : (cycle : List Literal) → test (Cycle cycle) ≡ false

module _ (clauses : List (List Literal)) (test : Step → Bool) (h : IsOfClauses test) where
  no_pairs : (clause : List Literal) → list_any test (map pair_step clause) ≡ false
  no_pairs [] = refl
  no_pairs (l ∷ clause) = ap (λ (b : Bool). b || list_any test (map pair_step clause)) (h.cycle_is (pair_of l)) ∙ no_pairs clause

  any_written : (i : ℕ) (clause : Option (List Literal)) → list_any test (written_out i clause) ≡ test (Clash i)
  any_written i None = or_none (test (Clash i))
  any_written i (Some clause) = ap (λ (b : Bool). test (Input i) || b) (no_pairs clause) ∙ or_none (test (Input i)) ∙ h.clash_is i

  any_step : (step : Step) → list_any test (lengthened_step clauses step) ≡ test step
  any_step (Cycle cycle) = or_none (test (Cycle cycle))
  any_step (Input i) = or_none (test (Input i))
  any_step (Earlier j) = or_none (test (Earlier j))
  any_step (Clash i) = any_written i (slice_get clauses i)
  any_step (Either l) = or_none (test (Either l))

  any_same : (steps : List Step) → list_any test (lengthened clauses steps) ≡ list_any test steps
  any_same [] = refl
  any_same (s ∷ steps) =
      list_any-append test (lengthened_step clauses s) (lengthened clauses steps)
      ∙ ap (λ (b : Bool). b || list_any test (lengthened clauses steps)) (any_step s)
      ∙ ap (λ (b : Bool). test s || b) (any_same steps)

  marked_same : (marks : List Bool) (lemmas : List Lemma) → some_marked test marks (map (lengthened_lemma clauses) lemmas) ≡ some_marked test marks lemmas
  marked_same [] [] = refl
  marked_same [] (l ∷ lemmas) = refl
  marked_same (true ∷ marks) [] = refl
  marked_same (false ∷ marks) [] = refl
  marked_same (true ∷ marks) (l ∷ lemmas) =
      ap (λ (b : Bool). b || some_marked test marks (map (lengthened_lemma clauses) lemmas)) (any_same l.steps)
      ∙ ap (λ (b : Bool). list_any test l.steps || b) (marked_same marks lemmas)
  marked_same (false ∷ marks) (l ∷ lemmas) = marked_same marks lemmas

cites_of : (j : ℕ) → IsOfClauses (cites_lemma j)
cites_of j = record { clash_is = λ i. refl; cycle_is = λ cycle. refl }

names_of : (i : ℕ) → IsOfClauses (names_clause i)
names_of i = record { clash_is = λ k. refl; cycle_is = λ cycle. refl }

module _ (clauses : List (List Literal)) where
  here_same : (j : ℕ) (marks : List Bool) (lemmas : List Lemma) → is_needed j (map (lengthened_lemma clauses) lemmas) marks ≡ is_needed j lemmas marks
  here_same j marks [] = refl
  here_same j marks (l ∷ lemmas) = marked_same clauses (cites_lemma j) (cites_of j) marks (l ∷ lemmas)

  needed_same : (j : ℕ) (lemmas : List Lemma) → needed_from j (map (lengthened_lemma clauses) lemmas) ≡ needed_from j lemmas
  needed_same j [] = refl
  needed_same j (l ∷ lemmas) =
      ap (λ (marks : List Bool). is_needed j (map (lengthened_lemma clauses) lemmas) marks ∷ marks) (needed_same (suc j) lemmas)
      ∙ ap (λ (b : Bool). b ∷ needed_from (suc j) lemmas) (here_same j (needed_from (suc j) lemmas) lemmas)

  pub cites_same : (lemmas : List Lemma) (i : ℕ) → cites_clause (map (lengthened_lemma clauses) lemmas) i ≡ cites_clause lemmas i
  cites_same lemmas i =
      ap (λ (marks : List Bool). some_marked (names_clause i) marks (map (lengthened_lemma clauses) lemmas)) (needed_same 0 lemmas)
      ∙ marked_same clauses (names_clause i) (names_of i) (needed_from 0 lemmas) lemmas
