use Rattle.worker_tests.specs.Placed.{IsSameHand}
use Rattle.worker_tests.proofs.stops.fetch_all.Given as goal

abbrev pub invariant-loop-i : goal.invariant-loop-i
invariant-loop-i g l = IsSameHand l.fn.hand l.hand
