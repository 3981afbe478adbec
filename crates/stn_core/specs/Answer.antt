use Rattle.std.specs.Prelude.{ℕ, List, All, Contains, ℤ}
use Rattle.stn_core.specs.declared.literal.Literal.{Literal}
use Rattle.stn_core.specs.declared.schedule.Greatest.{Greatest}
use Rattle.stn_core.specs.declared.schedule.Greatest.TheVariants.{Greatest as AsGreatest, Negative}
use Rattle.stn_core.specs.Cycle.{IsNegativeCycle}
use Rattle.stn_core.specs.Schedule.{IsGreatestSchedule, IsInRange}

-- the greatest schedule, with each of its values in range
pub record IsBest (points : ℕ) (literals : List Literal) (values : List ℤ) : Type 0 where
  pub greatest : IsGreatestSchedule points literals values
  pub range : All IsInRange values

-- a negative cycle, each of whose literals is a given one
pub record IsCycleAmong (literals : List Literal) (cycle : List Literal) : Type 0 where
  pub negative : IsNegativeCycle cycle
  pub given : All (Contains literals) cycle

-- the greatest schedule of the literals, or a negative cycle of them
abbrev pub IsAnswer : ℕ → List Literal → Greatest → Type 0
IsAnswer points literals (AsGreatest schedule) = IsBest points literals schedule
IsAnswer points literals (Negative cycle) = IsCycleAmong literals cycle
