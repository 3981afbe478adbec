use Rattle.worker_tests.specs.Placed.{IsSameHand}
use Rattle.worker_tests.proofs.stops.share.Given as goal

abbrev pub invariant-loop-id : goal.invariant-loop-id
invariant-loop-id g l = IsSameHand l.fn.hand l.hand
