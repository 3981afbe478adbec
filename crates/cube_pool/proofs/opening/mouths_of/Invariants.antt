use Rattle.std.proofs.Common.{◌≡◌, map, take, vec_len}
use Rattle.crossbeam_deque.specs.Handles.{stealer_deque}
use Rattle.cube_pool.specs.code.Closings.{AllFirstOut, deques}
use Rattle.cube_pool.proofs.opening.mouths_of.Given as goal

abbrev pub invariant-loop-lane : goal.invariant-loop-lane
invariant-loop-lane l = record {
  same : map stealer_deque l.mouths.items ≡ deques (take l.lane-index l.lanes);
  count : vec_len l.mouths ≡ l.lane-index;
  first : AllFirstOut l.mouths.items;
}
