-- What is held of a lemma's steps names all that they name.
use Rattle.std.proofs.Common.{◌≡◌, List, [], ◌∷◌, ◌++◌, flat_map, refl, sym, ap, ◌∙◌, append-nil}
use Rattle.std.specs.List.{AllZip}
use Rattle.std.proofs.lemmas.List.Concat.{flat_map-append}
use Rattle.stn_core.specs.declared.literal.Literal.{Literal}
use Rattle.refute_tree.specs.declared.step.Step.{Step}
use Rattle.refute_tree.specs.declared.step.Step.TheVariants.{Cycle, Input, Lemma as Earlier, Clash, Either}
use Rattle.refute_tree.specs.declared.lemma.Lemma.{Lemma}
use Rattle.kept_lemmas.specs.Facts.{Facts, step_support, step_named, own_fact}
use Rattle.lemma_shelf.specs.declared.table.Table.{Table}
use Rattle.lemma_shelf.specs.declared.trees.Trees.{Trees}
use Rattle.lemma_shelf.specs.declared.trees.Trees.TheVariants.{Held, LetGo}
use Rattle.lemma_shelf.specs.code.Tables.{step_held, steps_held}
use Rattle.lemma_shelf.specs.code.Walks.{KeepsTrees}

module _ {Y : Type 0} (f : Step → List Y) (none : (cycle : List Literal) → f (Cycle cycle) ≡ []) where
  of_step : (trees : Trees) (s : Step) → flat_map f (step_held trees s) ≡ f s
  of_step Held s = append-nil (f s)
  of_step LetGo (Cycle cycle) = sym (none cycle)
  of_step LetGo (Input i) = append-nil (f (Input i))
  of_step LetGo (Earlier j) = append-nil (f (Earlier j))
  of_step LetGo (Clash i) = append-nil (f (Clash i))
  of_step LetGo (Either l) = append-nil (f (Either l))

  of_steps : (trees : Trees) (steps : List Step) → flat_map f (steps_held trees steps) ≡ flat_map f steps
  of_steps trees [] = refl
  of_steps trees (s ∷ steps) =
      flat_map-append f (step_held trees s) (steps_held trees steps)
      ∙ ap (λ (xs : List Y). xs ++ flat_map f (steps_held trees steps)) (of_step trees s)
      ∙ ap (λ (xs : List Y). f s ++ xs) (of_steps trees steps)

-- so the lemma states and rests on the same
pub fact_held : (clauses : List (List Literal)) (facts : Facts) (trees : Trees) (lemma : Lemma)
    → own_fact clauses facts (record { clause = lemma.clause; steps = steps_held trees lemma.steps }) ≡ own_fact clauses facts lemma
fact_held clauses facts trees lemma =
    ap (λ (support : List (List Literal)). record { clause = lemma.clause; support = support; named = lemma.clause ++ flat_map (step_named facts) (steps_held trees lemma.steps) })
    (of_steps (step_support clauses facts) (λ cycle. refl) trees lemma.steps)
    ∙ ap (λ (named : List Literal). record { clause = lemma.clause; support = flat_map (step_support clauses facts) lemma.steps; named = lemma.clause ++ named })
    (of_steps (step_named facts) (λ cycle. refl) trees lemma.steps)

-- all of them, where trees are held
pub all_held : (steps : List Step) → steps_held Held steps ≡ steps
all_held [] = refl
all_held (s ∷ steps) = ap (λ (ss : List Step). s ∷ ss) (all_held steps)

-- one more step
pub held_more : (trees : Trees) (done : List Step) (s : Step) → steps_held trees (done ++ s ∷ []) ≡ steps_held trees done ++ step_held trees s
held_more trees done s = flat_map-append (step_held trees) done (s ∷ []) ∙ ap (λ (ss : List Step). steps_held trees done ++ ss) (append-nil (step_held trees s))

pub zip_more : {A B : Type 0} (R : A → B → Type 0) (xs : List A) (ys : List B) (more : List A) (next : List B) → AllZip R xs ys → AllZip R more next → AllZip R (xs ++ more) (ys ++ next)
zip_more R [] [] more next h g = g
zip_more R [] (y ∷ ys) more next h g = elim h [ ]
zip_more R (x ∷ xs) [] more next h g = elim h [ ]
zip_more R (x ∷ xs) (y ∷ ys) more next h g = (h.0, zip_more R xs ys more next h.1 g)

-- ---- trees that stay

pub trees_stay : (trees : Trees) (table : Table) → KeepsTrees trees table table
trees_stay Held table = λ there. there
trees_stay LetGo table = tt

pub trees_further : (trees : Trees) (a b c : Table) → KeepsTrees trees a b → KeepsTrees trees b c → KeepsTrees trees a c
trees_further Held a b c g h = λ there. h (g there)
trees_further LetGo a b c g h = tt
