use Rattle.std.proofs.Common.{◌≡◌, ℕ, ◌+◌, ◌-◌, ◌<◌, ◌≤◌, length, vec_len}
use Rattle.std.proofs.Math.ListN.{get_or}
use Rattle.crossbeam_deque.specs.Handles.{worker_view}
use Rattle.cube_pool.specs.Lanes.{whole}
use Rattle.cube_pool.specs.code.Closings.{Lane, AreEnds, AreRows, IsTakingIn, put_by, taken_there, taken_over}
use Rattle.cube_pool.proofs.closing.join_all.Given as goal

abbrev pub invariant-rows : goal.invariant-rows
invariant-rows l = record {
  few : vec_len l.rows ≤ length l.pool;
  rows : AreRows l.pool l.rows.items;
  ends : AreEnds l.pool (whole - vec_len l.rows) l.lanes.items;
  put : (h : ℕ → ℕ) → put_by h l.lanes.items ≡ put_by h l.fn.lanes.items;
  taken : (h : ℕ → ℕ) → taken_there h l.lanes.items + taken_over h l.rows.items ≡ taken_there h l.fn.lanes.items + taken_over h l.fn.rows.items;
  each : (k : ℕ) (d : Lane) → k < length l.lanes.items → IsTakingIn (length l.pool - 1 - k) l.rows.items l.fn.rows.items (worker_view (get_or l.fn.lanes.items k d)) (worker_view (get_or l.lanes.items k d));
}

abbrev pub decreases-rows : goal.decreases-rows
decreases-rows l = vec_len l.rows
