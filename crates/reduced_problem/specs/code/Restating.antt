-- Steps of a reduced problem as those of the problem itself. Of the code and not of the meaning.
use Rattle.std.specs.Prelude.{ℕ, ◌+◌, ◌<◌, ◌^◌, List, [], ◌∷◌, ◌++◌, length, map, slice_index_or, All}
use Rattle.stn_core.specs.declared.literal.Literal.{Literal}
use Rattle.refute_tree.specs.declared.step.Step.{Step}
use Rattle.refute_tree.specs.declared.step.Step.TheVariants.{Cycle, Input, Lemma as Earlier, Clash, Either}
use Rattle.refute_tree.specs.declared.lemma.Lemma.{Lemma}
use Rattle.refute_tree.specs.Lengths.{pair_step}
use Rattle.atom_elimination.specs.declared.derivation.Origin.{Origin}
use Rattle.atom_elimination.specs.declared.derivation.Origin.TheVariants.{Input as Given, Lemma as Derived}

abbrev pub origin_at : List Origin → ℕ → Origin
origin_at origins i = slice_index_or origins i (Given i)

abbrev pub clause_at : List (List Literal) → ℕ → List Literal
clause_at clauses i = slice_index_or clauses i []

-- the step that opens the cases of the clause
abbrev pub opened_by : Origin → Step
opened_by (Given i) = Input i
opened_by (Derived j) = Earlier j

-- the steps that end a branch on which the clause is denied: of a lemma each case by its literal and the negation
abbrev pub closed_by : Origin → List Literal → List Step
closed_by (Given i) clause = Clash i ∷ []
closed_by (Derived j) clause = Earlier j ∷ map pair_step clause

-- the step, where so many lemmas stand before those that it cites
abbrev pub restated_step : List Origin → List (List Literal) → ℕ → Step → List Step
restated_step origins clauses base (Cycle cycle) = Cycle cycle ∷ []
restated_step origins clauses base (Input i) = opened_by (origin_at origins i) ∷ []
restated_step origins clauses base (Earlier j) = Earlier (base + j) ∷ []
restated_step origins clauses base (Clash i) = closed_by (origin_at origins i) (clause_at clauses i)
restated_step origins clauses base (Either l) = Either l ∷ []

abbrev pub restated : List Origin → List (List Literal) → ℕ → List Step → List Step
restated origins clauses base [] = []
restated origins clauses base (step ∷ steps) = restated_step origins clauses base step ++ restated origins clauses base steps

abbrev pub restated_lemma : List Origin → List (List Literal) → ℕ → Lemma → Lemma
restated_lemma origins clauses base lemma = record { clause = lemma.clause; steps = restated origins clauses base lemma.steps }

-- a number that is cited stays one of the machine
abbrev pub Fits : ℕ → Step → Type 0
Fits base (Earlier j) = base + j < 2 ^ 64
Fits base step = Unit {0}

abbrev pub LemmaFits : ℕ → Lemma → Type 0
LemmaFits base lemma = All (Fits base) lemma.steps
