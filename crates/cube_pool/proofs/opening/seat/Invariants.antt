use Rattle.std.proofs.Common.{◌≡◌, ℕ, ◌<◌, ◌+◌, length, vec_len, slice_get, Some}
use Rattle.cube_pool.specs.Hands.{newcomer}
use Rattle.cube_pool.specs.code.Closings.{AreFreshRows, AreLanesLeft, deques}
use Rattle.cube_pool.proofs.opening.seat.Given as goal

abbrev pub invariant-lanes : goal.invariant-lanes
invariant-lanes l = record {
  lanes : AreLanesLeft (deques l.fn.lanes.items) l.lanes.items;
  count : vec_len l.hands + vec_len l.lanes ≡ vec_len l.fn.lanes;
  rows_left : vec_len l.rows ≡ vec_len l.lanes;
  rows : AreFreshRows (deques l.fn.lanes.items) l.rows.items;
  hands : (k : ℕ) → k < length l.hands.items → slice_get l.hands.items k ≡ Some (newcomer (deques l.fn.lanes.items) k);
}

abbrev pub decreases-lanes : goal.decreases-lanes
decreases-lanes l = vec_len l.lanes
