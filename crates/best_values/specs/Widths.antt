-- How wide the bounds of a problem are.
use Rattle.std.specs.Prelude.{ℕ, ◌≤◌, ◌+◌, ◌*◌, List, [], ◌∷◌, max, unsigned_abs, ℤ, pos, neg_ℤ, ◌≤ℤ◌}
use Rattle.stn_core.specs.declared.literal.Literal.{Literal}
use Rattle.stn_core.specs.declared.problem.Problem.{Problem}
use Rattle.best_values.specs.declared.limit.TheConstants.{OBJECTIVE_LIMIT}

-- the greatest absolute value of a bound, and 0 without literals
abbrev pub clause_width : List Literal → ℕ
clause_width [] = 0
clause_width (l ∷ ls) = max (unsigned_abs l.c) (clause_width ls)

abbrev pub width_of : List (List Literal) → ℕ
width_of [] = 0
width_of (clause ∷ clauses) = max (clause_width clause) (width_of clauses)

abbrev pub objective_limit : ℕ
objective_limit = OBJECTIVE_LIMIT

-- the points, each by one more than the widest bound from the next, are within the limit
abbrev pub Fits : Problem → Type 0
Fits problem = problem.points * (width_of problem.clauses + 1) ≤ objective_limit

-- a value of an objective is no further from 0 than the limit
pub record IsWithinLimit (value : ℤ) : Type 0 where
  pub low : neg_ℤ (pos objective_limit) ≤ℤ value
  pub high : value ≤ℤ pos objective_limit
