use Rattle.std.proofs.Common.{◌≤◌, ◌*◌, ◌<◌, ℕ, slice_index}
use Rattle.better_schedules.proofs.ascent.climb.Given as goal

abbrev pub invariant-loop-height : goal.invariant-loop-height
invariant-loop-height l = record {
  near : l.reached ≤ l.height-index * l.width;
  past : (j : ℕ) → j < l.height-index → slice_index l.sorted j ≤ l.reached;
}
