-- Of the code and not of the meaning: one literal of each clause, and the schedules that these have.
use Rattle.std.specs.Prelude.{◌≡◌, ℕ, ◌<◌, List, [], length, Contains, slice_index_or, ℤ, neg_ℤ, ◌≤ℤ◌}
use Rattle.stn_core.specs.declared.literal.Literal.{Literal}
use Rattle.stn_core.specs.declared.problem.Problem.{Problem}
use Rattle.stn_core.specs.Literal.{value_at, literal_at, Holds}
use Rattle.stn_core.specs.Solution.{IsSolution}
use Rattle.better_schedules.specs.Near.{span}

-- a literal of the clause that holds
abbrev pub IsTrueOf : List ℤ → List Literal → Literal → Type 0
IsTrueOf values clause l = Contains clause l × Holds values l

-- of each clause a literal that holds, in the order of the clauses
pub record IsChoice (values : List ℤ) (clauses : List (List Literal)) (chosen : List Literal) : Type 0 where
  pub count : length chosen ≡ length clauses
  pub each : (k : ℕ) → k < length clauses → IsTrueOf values (slice_index_or clauses k []) (literal_at chosen k)

-- a solution of which no value is further below 0 than the span
pub record IsFlat (problem : Problem) (values : List ℤ) : Type 0 where
  pub solution : IsSolution problem values
  pub near : (p : ℕ) → p < problem.points → neg_ℤ (span problem) ≤ℤ value_at values p
