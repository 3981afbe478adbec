-- Refutation trees: proof by cases on clauses, down to negative cycles.
use Rattle.std.specs.Prelude.{◌≡◌, ℕ, ◌<◌, ◌-◌, List, [], ◌∷◌, ◌++◌, length, take, map, flat_map, All, Contains, Option, Some, None, slice_get}
use Rattle.stn_core.specs.declared.literal.Literal.{Literal}
use Rattle.stn_core.specs.Literal.{negation_of}
use Rattle.stn_core.specs.Answer.{IsCycleAmong}
use Rattle.refute_tree.specs.declared.step.Step.{Step}
use Rattle.refute_tree.specs.declared.step.Step.TheVariants.{Cycle, Input, Lemma as Earlier, Clash, Either}
use Rattle.refute_tree.specs.declared.lemma.Lemma.{Lemma}

-- The steps and the order in which a tree is written are this project's own. Each case step is the rule of proof by
-- cases, and a leaf is what shows a Simple Temporal Network inconsistent (Dechter, Meiri, Pearl 1991, section 3).

-- the clause whose cases a step opens, given the problem's clauses and those of the earlier lemmas; a leaf opens none
abbrev pub clause_of : List (List Literal) → List (List Literal) → Step → Option (List Literal)
clause_of inputs lemmas (Cycle cycle) = None
clause_of inputs lemmas (Input i) = slice_get inputs i
clause_of inputs lemmas (Earlier j) = slice_get lemmas j
clause_of inputs lemmas (Clash i) = None
clause_of inputs lemmas (Either l) = Some (l ∷ negation_of l ∷ [])

-- the negation of each literal of the clause is assumed
abbrev pub IsDenied : List Literal → List Literal → Type 0
IsDenied assumed clause = All (Contains assumed) (map negation_of clause)

-- `Tree inputs lemmas assumed steps rest`: the steps begin with one tree, in preorder, under the assumptions, and the
-- rest is what follows it
-- `Forest inputs lemmas assumed clause steps rest`: the steps begin with one tree for each literal of the clause
mutual
  pub data Tree (inputs lemmas : List (List Literal)) : List Literal → List Step → List Step → Type 0 where
    -- a negative cycle of assumed literals
    leaf : {assumed cycle : List Literal} {rest : List Step} → IsCycleAmong assumed cycle → Tree inputs lemmas assumed (Cycle cycle ∷ rest) rest
    -- a clause of the problem that is denied
    clash : {assumed clause : List Literal} {i : ℕ} {rest : List Step} → slice_get inputs i ≡ Some clause → IsDenied assumed clause → Tree inputs lemmas assumed (Clash i ∷ rest) rest
    -- a step with a clause, then the clause's cases
    cases : {assumed clause : List Literal} {step : Step} {steps rest : List Step} → clause_of inputs lemmas step ≡ Some clause → Forest inputs lemmas assumed clause steps rest → Tree inputs lemmas assumed (step ∷ steps) rest

  pub data Forest (inputs lemmas : List (List Literal)) : List Literal → List Literal → List Step → List Step → Type 0 where
    -- without literals there is no case
    none : {assumed : List Literal} {steps : List Step} → Forest inputs lemmas assumed [] steps steps
    -- the tree in which the literal is assumed too, then the other literals' cases, in which its negation is
    more : {assumed clause : List Literal} {l : Literal} {steps others rest : List Step} → Tree inputs lemmas (assumed ++ l ∷ []) steps others → Forest inputs lemmas (assumed ++ negation_of l ∷ []) clause others rest → Forest inputs lemmas assumed (l ∷ clause) steps rest

-- the literal's time points are among so many
pub record IsOnPoints (points : ℕ) (l : Literal) : Type 0 where
  pub x_in : l.x < points
  pub y_in : l.y < points

-- the literals that a step names itself, and no clause or assumption before it
abbrev pub literals_named : Step → List Literal
literals_named (Either l) = l ∷ []
literals_named step = []

-- the time points that a step names are among so many
abbrev pub NamesPoints : ℕ → Step → Type 0
NamesPoints points step = All (IsOnPoints points) (literals_named step)

-- the lemma's steps are one tree that refutes the denial of its clause, over a problem and the clauses of the lemmas
-- before it
pub record IsRefuted (points : ℕ) (clauses earlier : List (List Literal)) (lemma : Lemma) : Type 0 where
  pub clause : All (IsOnPoints points) lemma.clause
  pub steps : All (NamesPoints points) lemma.steps
  pub tree : Tree clauses earlier (map negation_of lemma.clause) lemma.steps []

-- the clause that a lemma states
abbrev pub stated : Lemma → List Literal
stated lemma = lemma.clause

-- the lemmas show that the problem has no solution: there is one at least, each is refuted over the problem and those
-- before it, and the last states the clause without literals, which never holds
pub record IsRefutation (points : ℕ) (clauses : List (List Literal)) (lemmas : List Lemma) : Type 0 where
  pub some : 0 < length lemmas
  pub each : (j : ℕ) (lemma : Lemma) → slice_get lemmas j ≡ Some lemma → IsRefuted points clauses (map stated (take j lemmas)) lemma
  pub last : (lemma : Lemma) → slice_get lemmas (length lemmas - 1) ≡ Some lemma → lemma.clause ≡ []

-- the steps of the children, one child after another
abbrev pub joined : List (List Step) → List Step
joined children = flat_map (λ (child : List Step). child) children

-- one list of steps for each literal of the clause, which is one whole tree under the assumptions, the literal and the
-- negations of the literals before it
abbrev pub AreTrees : List (List Literal) → List (List Literal) → List Literal → List Literal → List (List Step) → Type 0
AreTrees inputs lemmas assumed [] [] = Unit {0}
AreTrees inputs lemmas assumed [] (child ∷ children) = ⊥
AreTrees inputs lemmas assumed (l ∷ clause) [] = ⊥
AreTrees inputs lemmas assumed (l ∷ clause) (child ∷ children) = Tree inputs lemmas (assumed ++ l ∷ []) child [] × AreTrees inputs lemmas (assumed ++ negation_of l ∷ []) clause children

-- the steps are a leaf: a tree wherever the cycle is one of assumed literals
abbrev pub IsLeaf : List Literal → List Step → Type 0
IsLeaf cycle steps =
    (inputs lemmas : List (List Literal)) (assumed : List Literal)
    → IsCycleAmong assumed cycle → Tree inputs lemmas assumed steps []

-- the steps are a tree wherever the problem has such a clause that is denied
abbrev pub IsClash : ℕ → List Step → Type 0
IsClash i steps =
    (inputs lemmas : List (List Literal)) (assumed clause : List Literal)
    → slice_get inputs i ≡ Some clause → IsDenied assumed clause → Tree inputs lemmas assumed steps []

-- the steps are a tree wherever the step opens a clause whose cases these children are
abbrev pub IsCaseTree : Step → List (List Step) → List Step → Type 0
IsCaseTree step children steps =
    (inputs lemmas : List (List Literal)) (assumed clause : List Literal)
    → clause_of inputs lemmas step ≡ Some clause → AreTrees inputs lemmas assumed clause children
    → Tree inputs lemmas assumed steps []
