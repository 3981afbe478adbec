use Rattle.std.proofs.Common.{◌≡◌}
use Rattle.worker_tests.proofs.hands.pushes.Given as goal

abbrev pub invariant-loop-id : goal.invariant-loop-id
invariant-loop-id l = l.hand.pool ≡ l.pool
