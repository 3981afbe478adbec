use Rattle.std.proofs.Common.{◌≡◌, ◌++◌, length}
use Rattle.crossbeam_deque.specs.Handles.{worker_flavor, worker_port, worker_view}
use Rattle.cube_pool.specs.Lanes.{whole}
use Rattle.cube_pool.proofs.lane.drain.Given as goal

abbrev pub invariant-loop-i : goal.invariant-loop-i
invariant-loop-i l = record {
  fifo : worker_flavor l.lane ≡ 0;
  first : worker_port l.lane ≡ 0;
  parts : (worker_view l.lane).parts ≡ whole;
  put : (worker_view l.lane).put ≡ (worker_view l.fn.lane).put;
  taken : (worker_view l.lane).taken ≡ (worker_view l.fn.lane).taken ++ l.left.items;
  count : length l.left.items ≡ l._i;
}
