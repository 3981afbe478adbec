-- Of the code and not of the meaning: a run of equal time points at the front of sorted summands.
use Rattle.std.specs.Prelude.{◌<◌, ◌≤ℤ◌, ◌^◌, List, drop, Bool, pos, neg_ℤ}
use Rattle.idl_linear.specs.declared.summand.Summand.{Summand}
use Rattle.idl_linear.specs.declared.runs.Run.{Run}
use Rattle.idl_linear.specs.Linear.{negative_summand}
use Rattle.idl_linear.specs.Limits.{points_limit}
use Rattle.idl_linear.specs.code.Trees.{AllFrom}
use Rattle.std.specs.Prelude.{◌+◌, if◌then◌else◌}

-- its time point is that of a name, and its sum is far below the least number that doesn't fit its type
pub record IsSmallRun (run : Run) : Type 0 where
  pub above : 0 < run.point
  pub below : run.point < points_limit
  pub low : neg_ℤ (pos (2 ^ 100)) ≤ℤ run.sum
  pub high : run.sum ≤ℤ pos (2 ^ 100)

-- and the time points behind it are others
pub record IsFirstRun (summands : List Summand) (run : Run) : Type 0 where
  pub small : IsSmallRun run
  pub others : AllFrom (run.point + 1) (drop run.len summands)

abbrev pub signed_run : Bool → Run → Summand
signed_run negated run =
    if negated then negative_summand (record { point = run.point; coefficient = run.sum }) else record { point = run.point; coefficient = run.sum }
