-- What an objective, the difference of two time points, comes to over a problem.
use Rattle.std.specs.Prelude.{◌≡◌, ℕ, ◌<◌, List, All, ℤ}
use Rattle.stn_core.specs.declared.problem.Problem.{Problem}
use Rattle.stn_core.specs.Solution.{IsSolution}
use Rattle.refute_tree.specs.declared.lemma.Lemma.{Lemma}
use Rattle.refute_tree.specs.Trees.{IsRefutation}
use Rattle.refute_tree.specs.Batches.{LemmaIsOver}
use Rattle.best_values.specs.Bests.{objective, IsModel, IsBestValue, IsFreeSet}
use Rattle.best_values.specs.Questions.{clauses_below}
use Rattle.best_values.specs.Widths.{IsWithinLimit}
use Rattle.best_bound.specs.declared.answer.Best.{Best}
use Rattle.best_bound.specs.declared.answer.Best.TheVariants.{Nothing, Least, Unbounded}

-- a refutation of the problem, whose literals are within the limits
abbrev pub IsNothing : Problem → List Lemma → Type 0
IsNothing problem lemmas = IsRefutation problem.points problem.clauses lemmas × All (LemmaIsOver problem.points) lemmas

-- the schedule attains the value, which is within the limit, and the problem with the last clause that the objective is
-- below it is refuted
pub record IsLeast (problem : Problem) (x y : ℕ) (values : List ℤ) (m : ℤ) (lemmas : List Lemma) : Type 0 where
  pub solution : IsSolution problem values
  pub attained : objective x y values ≡ m
  pub within : IsWithinLimit m
  pub refuted : IsRefutation problem.points (clauses_below problem x y m) lemmas
  pub over : All (LemmaIsOver problem.points) lemmas

-- values on which the problem holds, and a set with x in it and y not, such that of each clause a literal holds whose
-- second point is not in the set, or whose first point is
pub record IsUnbounded (problem : Problem) (x y : ℕ) (values : List ℤ) (set : List ℕ) : Type 0 where
  pub solution : IsSolution problem values
  pub free : IsFreeSet problem x y values set

abbrev pub IsBestAnswer : Problem → ℕ → ℕ → Best → Type 0
IsBestAnswer problem x y (Nothing lemmas) = IsNothing problem lemmas
IsBestAnswer problem x y (Least values m lemmas) = IsLeast problem x y values m lemmas
IsBestAnswer problem x y (Unbounded values set) = IsUnbounded problem x y values set

-- what an answer says of the best value
abbrev pub Tells : Problem → ℕ → ℕ → Best → Type 0
Tells problem x y (Nothing lemmas) = (values : List ℤ) → ¬ IsModel problem values
Tells problem x y (Least values m lemmas) = IsBestValue problem x y m
Tells problem x y (Unbounded values set) = IsModel problem values × ((m : ℤ) → ¬ IsBestValue problem x y m)

abbrev pub BestAnswerLaw : Type 0
BestAnswerLaw =
    (problem : Problem) (x y : ℕ) (best : Best)
    → x < problem.points → y < problem.points → IsBestAnswer problem x y best → Tells problem x y best
