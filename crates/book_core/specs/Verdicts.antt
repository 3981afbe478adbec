-- What a book concludes.
use Rattle.std.specs.Prelude.{◌≡◌, ℕ, List, [], All, Option, Some, None, slice_get, ◌++◌, ◌∷◌}
use Rattle.refute_tree.specs.declared.step.Step.{Step}
use Rattle.stn_core.specs.declared.problem.Problem.{Problem}
use Rattle.refute_tree.specs.declared.lemma.Lemma.{Lemma}
use Rattle.refute_tree.specs.Trees.{IsRefutation}
use Rattle.refute_tree.specs.Batches.{LemmaIsOver}
use Rattle.book_core.specs.declared.verdict.Verdict.{Verdict}
use Rattle.book_core.specs.declared.verdict.Verdict.TheVariants.{Sat, Unsat}
use Rattle.book_core.specs.Books.{State, IsDone}
use Rattle.stn_core.specs.Solution.{IsSolution}

-- a solution, or a refutation whose literals are within the limits
abbrev pub IsRight : Problem → Verdict → Type 0
IsRight problem (Sat values) = IsSolution problem values
IsRight problem (Unsat lemmas) =
    IsRefutation problem.points problem.clauses lemmas × All (LemmaIsOver problem.points) lemmas

-- the schedule is the one that was found first, and a refutation comes where none was found
abbrev pub AgreesWith : State → Verdict → Type 0
AgreesWith s (Sat values) = s.found ≡ Some values
AgreesWith s (Unsat lemmas) = s.found ≡ None

-- a right verdict exactly where nothing is left to do
abbrev pub Concludes : Problem → State → Option Verdict → Type 0
Concludes problem s None = IsDone s → ⊥
Concludes problem s (Some verdict) = IsDone s × IsRight problem verdict × AgreesWith s verdict

-- the lemma without literals
abbrev pub last_lemma : List Step → Lemma
last_lemma steps = record { clause = []; steps = steps }

-- the lemmas, and where there are steps one more by them
abbrev pub ended_by : Option (List Step) → List Lemma → List Lemma
ended_by None lemmas = lemmas
ended_by (Some steps) lemmas = lemmas ++ last_lemma steps ∷ []

-- the lemma with this number has no literals
pub record EndsEmpty (lemmas : List Lemma) (j : ℕ) : Type 0 where
  pub lemma : Lemma
  pub at : slice_get lemmas j ≡ Some lemma
  pub empty : lemma.clause ≡ []
