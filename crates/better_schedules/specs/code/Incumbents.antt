-- Of the code and not of the meaning: the best schedule so far.
use Rattle.std.specs.Prelude.{◌≡◌, ℕ, ℤ, ◌≤ℤ◌}
use Rattle.stn_core.specs.declared.problem.Problem.{Problem}
use Rattle.stn_core.specs.Solution.{IsSolution}
use Rattle.best_values.specs.Bests.{objective}
use Rattle.better_schedules.specs.declared.incumbent.Incumbent.{Incumbent}
use Rattle.better_schedules.specs.Near.{span}

pub record IsIncumbent (problem : Problem) (x y : ℕ) (best : Incumbent) : Type 0 where
  pub solution : IsSolution problem best.schedule
  pub value : best.value ≡ objective x y best.schedule

-- one whose value is no greater than this
pub record IsNoWorse (problem : Problem) (x y : ℕ) (m : ℤ) (best : Incumbent) : Type 0 where
  pub incumbent : IsIncumbent problem x y best
  pub most : best.value ≤ℤ m

-- one whose value is no greater than the problem's span
abbrev pub IsOpening : Problem → ℕ → ℕ → Incumbent → Type 0
IsOpening problem x y best = IsNoWorse problem x y (span problem) best
