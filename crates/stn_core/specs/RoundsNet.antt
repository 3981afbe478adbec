use Rattle.std.specs.Prelude.{◌≡◌, ℕ, ◌<◌, ◌≤◌, ◌+◌, List, [], length, take, All, slice_index_or, ℤ}
use Rattle.stn_core.specs.declared.literal.Literal.{Literal}
use Rattle.stn_core.specs.Answer.{IsBest}
use Rattle.stn_core.specs.Limits.{points_limit}
use Rattle.stn_core.specs.Literal.{IsOver}

-- what a net shows: its count of time points, its literals, and how many calls of `add` it answered
pub record Shown : Type 0 where
  pub points : ℕ
  pub literals : List Literal
  pub adds : ℕ

-- Of the code and not of the meaning: each first part of the literals has its greatest schedule.
pub record KeepsSchedules (points : ℕ) (literals : List Literal) (schedules : List (List ℤ)) : Type 0 where
  pub some : 1 ≤ points
  pub few : points ≤ points_limit
  pub over : All (IsOver points) literals
  pub count : length schedules ≡ length literals + 1
  pub each : (k : ℕ) → k < length schedules → IsBest points (take k literals) (slice_index_or schedules k [])
