-- What a slice of search answers, and what is owed of it. This page is all that the contract of `slice` cites, beside
-- the words of problems, lemmas and consistent literals.
--
-- That a slice leaves a solution, a lemma that excludes its cube, or a division of it is this project's own.
use Rattle.std.specs.Prelude.{◌≡◌, ℕ, ◌≤◌, ◌+◌, min, List, [], ◌∷◌, ◌++◌, length, All, Contains, Some, slice_get}
use Rattle.stn_core.specs.declared.literal.Literal.{Literal}
use Rattle.stn_core.specs.declared.problem.Problem.{Problem}
use Rattle.stn_core.specs.Limits.{adds_limit}
use Rattle.stn_core.specs.Literal.{negation_of}
use Rattle.stn_core.specs.Net.{IsConsistent}
use Rattle.stn_core.specs.Solution.{IsSolution, IsAtom}
use Rattle.refute_tree.specs.declared.lemma.Lemma.{Lemma}
use Rattle.refute_tree.specs.Batches.{LemmaBatch, AreRefuted, LemmaIsOver}
use Rattle.branch_search.specs.declared.answer.Slice.{Slice}
use Rattle.branch_search.specs.declared.answer.Slice.TheVariants.{Model, Refuted, Split}
use Rattle.branch_search.specs.declared.answer.Part.{Part}
use Rattle.branch_search.specs.declared.answer.Part.TheVariants.{Ended, Paused}

-- what a slice is asked: a problem, the clauses of the lemmas that it is handed, and the cube
pub record Question : Type 0 where
  pub problem : Problem
  pub handed : List (List Literal)
  pub cube : List Literal

abbrev pub question_of : Problem → List (List Literal) → List Literal → Question
question_of problem handed cube = record { problem = problem; handed = handed; cube = cube }

-- each lemma is refuted over the problem, the handed lemmas and those before it, and is within the limits
abbrev pub AreProved : Question → List Lemma → Type 0
AreProved q own =
    AreRefuted q.problem.points q.problem.clauses q.handed own × All (LemmaIsOver q.problem.points) own

-- they refer to those that were handed by the numbers below `seen`
pub record IsBatch (q : Question) (batch : LemmaBatch) : Type 0 where
  pub seen : batch.seen ≡ length q.handed
  pub proved : AreProved q batch.lemmas

-- the lemma with this number states that some literal of the cube fails
abbrev pub Excludes : List Literal → List Lemma → ℕ → Type 0
Excludes cube own j =
    (lemma : Lemma) × (slice_get own j ≡ Some lemma)
    × All (λ (m : Literal). (l : Literal) × Contains cube l × (m ≡ negation_of l)) lemma.clause

-- the literal is the problem's, both halves of the cube are consistent, and each clause of the problem has a literal
-- that is consistent with the cube
pub record IsSplit (q : Question) (l : Literal) : Type 0 where
  pub stated : IsAtom q.problem l
  pub with_it : IsConsistent q.problem.points (q.cube ++ l ∷ [])
  pub against : IsConsistent q.problem.points (q.cube ++ negation_of l ∷ [])
  pub live : (clause : List Literal) → Contains q.problem.clauses clause
      → (m : Literal) × Contains clause m × IsConsistent q.problem.points (q.cube ++ m ∷ [])

-- the answer, with its lemmas: a solution, a lemma that excludes the cube, or a literal to divide the cube by
abbrev pub IsSlice : Question → Slice → Type 0
IsSlice q (Model schedule batch) = IsSolution q.problem schedule × IsBatch q batch
IsSlice q (Refuted batch j) = Excludes q.cube batch.lemmas j × IsBatch q batch
IsSlice q (Split l batch) = IsSplit q l × IsBatch q batch

-- a split comes only where the net's count of adds has risen by the budget
abbrev pub HasSpent : ℕ → ℕ → ℕ → Slice → Type 0
HasSpent before budget after (Model schedule batch) = Unit {0}
HasSpent before budget after (Refuted batch j) = Unit {0}
HasSpent before budget after (Split l batch) = min (before + budget) adds_limit ≤ after

-- a part of a slice: its answer, or the lemmas alone
abbrev pub IsPart : Question → Part → Type 0
IsPart q (Ended slice) = IsSlice q slice
IsPart q (Paused batch) = IsBatch q batch

abbrev pub HasSpentByPart : ℕ → ℕ → ℕ → Part → Type 0
HasSpentByPart before budget after (Ended slice) = HasSpent before budget after slice
HasSpentByPart before budget after (Paused batch) = Unit {0}
