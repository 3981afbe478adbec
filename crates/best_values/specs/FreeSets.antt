-- Which clause is the first that a set doesn't keep, and, of the code alone, marks of a set's points.
use Rattle.std.specs.Prelude.{◌≡◌, ◌↔◌, ℕ, ◌<◌, List, [], length, take, All, Contains, Bool, true, false, slice_index_or, ℤ}
use Rattle.stn_core.specs.declared.literal.Literal.{Literal}
use Rattle.best_values.specs.Bests.{ClauseIsKept}

-- the clause with this number is not kept, and those before it are
pub record IsFirstNotKept (values : List ℤ) (set : List ℕ) (clauses : List (List Literal)) (number : ℕ) : Type 0 where
  pub within : number < length clauses
  pub before : All (ClauseIsKept values set) (take number clauses)
  pub fails : ¬ ClauseIsKept values set (slice_index_or clauses number [])

-- so many marks, of which those of the set's points are true
pub record AreMarks (points : ℕ) (set : List ℕ) (marks : List Bool) : Type 0 where
  pub count : length marks ≡ points
  pub each : (p : ℕ) → p < points → (slice_index_or marks p false ≡ true) ↔ Contains set p
