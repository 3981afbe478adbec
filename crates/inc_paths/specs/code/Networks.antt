-- Of the code and not of the meaning: the trail of a network leads back to the schedule of each first part of its literals.
use Rattle.std.specs.Prelude.{◌≡◌, ℕ, ◌≤◌, List, length, take, All, slice_index_or, ℤ}
use Rattle.stn_core.specs.declared.literal.Literal.{Literal}
use Rattle.stn_core.specs.Answer.{IsBest}
use Rattle.stn_core.specs.Limits.{points_limit}
use Rattle.stn_core.specs.Literal.{IsOver}
use Rattle.inc_paths.specs.declared.labels.Lowering.{Lowering}
use Rattle.inc_paths.specs.code.Trails.{Labelled, first_of}

-- where the trail of so many first literals ends; the trail of all of them is the whole
abbrev pub end_at : List ℕ → List Lowering → ℕ → ℕ
end_at ends trail count = slice_index_or ends count (length trail)

-- the values before the lowerings of the literals from a place on
abbrev pub values_at : List ℕ → Labelled → ℕ → List ℤ
values_at ends labels count = first_of (end_at ends labels.trail count) labels.trail labels.values

pub record KeepsTrail (points among : ℕ) (literals : List Literal) (values : List ℤ) (trail : List Lowering)
    (ends : List ℕ) : Type 0 where
  pub some : 1 ≤ points
  pub few : points ≤ points_limit
  pub same : among ≡ points
  pub over : All (IsOver points) literals
  pub count : length ends ≡ length literals
  pub rising : (j k : ℕ) → j ≤ k → k ≤ length ends → end_at ends trail j ≤ end_at ends trail k
  pub each : (k : ℕ) → k ≤ length ends
      → IsBest points (take k literals) (first_of (end_at ends trail k) trail values)
