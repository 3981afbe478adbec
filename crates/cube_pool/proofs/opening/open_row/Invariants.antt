use Rattle.std.proofs.Common.{◌≡◌, ◌-◌, [], map, take, vec_len}
use Rattle.cube_pool.specs.Lanes.{whole}
use Rattle.cube_pool.specs.Hands.{AreTakers, Deque, deque_of, known_by, taken_by}
use Rattle.cube_pool.specs.code.Closings.{AreSplit, deques}
use Rattle.cube_pool.proofs.opening.open_row.Given as goal

abbrev pub invariant-loop-place : goal.invariant-loop-place
invariant-loop-place l = record {
  count : vec_len l.lanes ≡ vec_len l.fn.lanes;
  same : deques l.lanes.items ≡ deques l.fn.lanes.items;
  split : AreSplit (whole - l.made) l.place l.lanes.items;
  row : map deque_of l.row.items ≡ take l.place (deques l.fn.lanes.items);
  takers : AreTakers l.row.items;
  nothing : map taken_by l.row.items ≡ map (λ (d : Deque). []) (take l.place (deques l.fn.lanes.items));
  unknown : map known_by l.row.items ≡ map (λ (d : Deque). []) (take l.place (deques l.fn.lanes.items));
}
