use Rattle.std.proofs.Common.{◌≡◌, ◌<◌, ℕ, length, slice_index}
use Rattle.stn_core.specs.Literal.{value_at}
use Rattle.better_schedules.specs.code.Heights.{IsHeight}
use Rattle.better_schedules.proofs.above.heights.Given as goal

abbrev pub invariant-loop-value : goal.invariant-loop-value
invariant-loop-value l = record {
  count : length l.heights.items ≡ l.value-index;
  each : (p : ℕ) → p < l.value-index → IsHeight (value_at l.values l.low) (value_at l.values p) (slice_index l.heights.items p);
}
