-- Best values of an objective, the difference of two time points, and when there is none.
use Rattle.std.specs.Prelude.{◌≡◌, ℕ, ◌<◌, List, length, All, Contains, ℤ, ◌-ℤ◌, ◌≤ℤ◌}
use Rattle.std.specs.List.Sorted.{IsStrictlyIncreasing}
use Rattle.stn_core.specs.declared.literal.Literal.{Literal}
use Rattle.stn_core.specs.declared.problem.Problem.{Problem}
use Rattle.stn_core.specs.Literal.{value_at, Holds}
use Rattle.stn_core.specs.Problem.{ProblemHolds}

-- the value of x - y
abbrev pub objective : ℕ → ℕ → List ℤ → ℤ
objective x y values = value_at values x -ℤ value_at values y

-- one value for each point, of any size, on which the problem holds
pub record IsModel (problem : Problem) (values : List ℤ) : Type 0 where
  pub count : length values ≡ problem.points
  pub holds : ProblemHolds values problem.clauses

-- some values on which the problem holds give the objective this value, and none give it less
pub record IsBestValue (problem : Problem) (x y : ℕ) (m : ℤ) : Type 0 where
  pub values : List ℤ
  pub model : IsModel problem values
  pub attained : objective x y values ≡ m
  pub least : (others : List ℤ) → IsModel problem others → m ≤ℤ objective x y others

-- the literal's second point is in the set, and its first point is not
abbrev pub IsCut : List ℕ → Literal → Type 0
IsCut set l = Contains set l.y × (Contains set l.x → ⊥)

-- the literal holds, and is not cut
abbrev pub IsKept : List ℤ → List ℕ → Literal → Type 0
IsKept values set l = Holds values l × (IsCut set l → ⊥)

-- some literal of the clause is kept
abbrev pub ClauseIsKept : List ℤ → List ℕ → List Literal → Type 0
ClauseIsKept values set clause = (l : Literal) × Contains clause l × IsKept values set l

-- x is in the set and y is not, and of each clause some literal holds whose second point is not in the set, or whose first
-- point is: so the points of the set can be lowered together, however far
pub record IsFreeSet (problem : Problem) (x y : ℕ) (values : List ℤ) (set : List ℕ) : Type 0 where
  pub among : All (λ (point : ℕ). point < problem.points) set
  pub ascending : IsStrictlyIncreasing set
  pub x_in : Contains set x
  pub y_out : Contains set y → ⊥
  pub kept : All (ClauseIsKept values set) problem.clauses
