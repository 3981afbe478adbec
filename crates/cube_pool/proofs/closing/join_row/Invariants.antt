use Rattle.std.proofs.Common.{◌≡◌, ℕ, ◌+◌, ◌-◌, ◌≤◌, map, take, length, vec_len}
use Rattle.cube_pool.specs.Lanes.{whole}
use Rattle.cube_pool.specs.Hands.{AreTakers, deque_of}
use Rattle.cube_pool.specs.code.Closings.{AreBecomingJoint, AreJoining, put_by, taken_there, taken_in}
use Rattle.cube_pool.proofs.Lists.{IsFrontOf}
use Rattle.cube_pool.proofs.closing.join_row.Given as goal

abbrev pub invariant-row : goal.invariant-row
invariant-row l = record {
  few : length l.row.items ≤ length l.fn.row.items;
  row : map deque_of l.row.items ≡ take (length l.row.items) (map deque_of l.fn.row.items);
  takers : AreTakers l.row.items;
  ends : AreJoining (map deque_of l.fn.row.items) (whole - l.left) (length l.row.items) l.lanes.items;
  put : (h : ℕ → ℕ) → put_by h l.lanes.items ≡ put_by h l.fn.lanes.items;
  taken : (h : ℕ → ℕ) → taken_there h l.lanes.items + taken_in h l.row.items ≡ taken_there h l.fn.lanes.items + taken_in h l.fn.row.items;
  front : IsFrontOf l.row.items l.fn.row.items;
  joint_ : AreBecomingJoint (length l.row.items) l.fn.lanes.items l.fn.row.items l.lanes.items;
}

abbrev pub decreases-row : goal.decreases-row
decreases-row l = vec_len l.row
