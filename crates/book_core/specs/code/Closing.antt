-- Of the code and not of the meaning: the steps that close a cover whose leaves are all Shut.
use Rattle.std.specs.Prelude.{◌≡◌, ◌⊎◌, ℕ, ◌+◌, List, [], ◌∷◌, ◌++◌, map, All, Some, slice_get}
use Rattle.stn_core.specs.declared.literal.Literal.{Literal}
use Rattle.stn_core.specs.Literal.{IsOver}
use Rattle.refute_tree.specs.declared.step.Step.{Step}
use Rattle.refute_tree.specs.declared.step.Step.TheVariants.{Cycle, Lemma as Earlier, Either}
use Rattle.refute_tree.specs.Trees.{Tree}
use Rattle.refute_tree.specs.Pairs.{pair_of}
use Rattle.cover_tree.specs.declared.node.Node.TheVariants.{Shut, Split}
use Rattle.cover_tree.specs.Covers.{Cubes, node_at, cube_at}

-- the literals of all cubes are within the limits
abbrev pub AreOver : ℕ → Cubes → Type 0
AreOver points c = (k : ℕ) → All (IsOver points) (cube_at c k)

-- the cycle of a literal with its negation
abbrev pub two_cycle : Literal → Step
two_cycle l = Cycle (pair_of l)

-- the cases of the leaf's lemma, each closed by the cube
abbrev pub leaf_steps : ℕ → List Literal → List Step
leaf_steps j clause = Earlier j ∷ map two_cycle clause

-- the steps that are written, and the nodes that wait
pub record Writing : Type 0 where
  pub steps : List Step
  pub waiting : List ℕ

abbrev pub writing : List Step → List ℕ → Writing
writing steps waiting = record { steps = steps; waiting = waiting }

-- a node's literal was written, and its branches wait, the one for the literal on top
pub record SplitWritten (c : Cubes) (k : ℕ) (old new : Writing) : Type 0 where
  pub literal : Literal
  pub first : ℕ
  pub at : node_at c k ≡ Some (Split literal first)
  pub written : new.steps ≡ old.steps ++ Either literal ∷ []
  pub waits : new.waiting ≡ (old.waiting ++ (first + 1) ∷ []) ++ first ∷ []

-- a leaf's steps were written
pub record LeafWritten (c : Cubes) (clauses : List (List Literal)) (k : ℕ) (old new : Writing) : Type 0 where
  pub lemma : ℕ
  pub clause : List Literal
  pub at : node_at c k ≡ Some (Shut lemma)
  pub stated : slice_get clauses lemma ≡ Some clause
  pub written : new.steps ≡ old.steps ++ leaf_steps lemma clause
  pub waits : new.waiting ≡ old.waiting

-- one node was written
abbrev pub Written : Cubes → List (List Literal) → ℕ → Writing → Writing → Type 0
Written c clauses k old new = SplitWritten c k old new ⊎ LeafWritten c clauses k old new

-- the steps refute every problem, over lemmas that state these clauses
abbrev pub AreClosing : List (List Literal) → List Step → Type 0
AreClosing clauses steps = (inputs : List (List Literal)) → Tree inputs clauses [] steps []
