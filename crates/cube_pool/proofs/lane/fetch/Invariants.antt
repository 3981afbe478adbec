use Rattle.std.proofs.Common.{◌≡◌}
use Rattle.crossbeam_deque.specs.Handles.{view, IsPassOf, SamePass, stealer_deque}
use Rattle.cube_pool.proofs.lane.fetch.Given as goal

abbrev pub invariant-loop : goal.invariant-loop
invariant-loop g l = record {
  deque : IsPassOf (stealer_deque l.mouth) l.pass;
  same : SamePass l.fn.pass l.pass;
  seen : view l.pass ≡ view l.fn.pass;
}
