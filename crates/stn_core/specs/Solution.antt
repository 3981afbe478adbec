-- What solves a problem, and which literals it is about.
use Rattle.std.specs.Prelude.{◌≡◌, List, length, All, Contains, ℤ}
use Rattle.stn_core.specs.declared.literal.Literal.{Literal}
use Rattle.stn_core.specs.declared.problem.Problem.{Problem}
use Rattle.stn_core.specs.Problem.{ProblemHolds}
use Rattle.stn_core.specs.Schedule.{IsInRange}

-- one value for each point, within the limits, on which every clause holds
pub record IsSolution (problem : Problem) (values : List ℤ) : Type 0 where
  pub count : length values ≡ problem.points
  pub range : All IsInRange values
  pub holds : ProblemHolds values problem.clauses

-- the literal is in a clause of the problem
abbrev pub IsAtom : Problem → Literal → Type 0
IsAtom problem l = (clause : List Literal) × Contains problem.clauses clause × Contains clause l
