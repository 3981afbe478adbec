-- The problem in which an objective is to be less than a value.
use Rattle.std.specs.Prelude.{◌≡◌, ℕ, List, ◌++◌, ◌∷◌, [], ℤ, pos, ◌-ℤ◌}
use Rattle.stn_core.specs.declared.literal.Literal.{Literal}
use Rattle.stn_core.specs.declared.problem.Problem.{Problem}

-- x - y is below the value
abbrev pub below : ℕ → ℕ → ℤ → Literal
below x y m = record { x = x; y = y; c = m -ℤ pos 1 }

-- the problem's clauses, and behind them one that has the objective below the value
abbrev pub clauses_below : Problem → ℕ → ℕ → ℤ → List (List Literal)
clauses_below problem x y m = problem.clauses ++ (below x y m ∷ []) ∷ []

pub record Asks (problem : Problem) (x y : ℕ) (m : ℤ) (asked : Problem) : Type 0 where
  pub points : asked.points ≡ problem.points
  pub clauses : asked.clauses ≡ clauses_below problem x y m
