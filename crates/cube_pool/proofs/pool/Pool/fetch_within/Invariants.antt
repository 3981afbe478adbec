use Rattle.std.proofs.Common.{◌≡◌}
use Rattle.cube_pool.proofs.pool.Pool.fetch_within.Given as goal

abbrev pub invariant-loop-place : goal.invariant-loop-place
invariant-loop-place g l = l.hand ≡ l.fn.hand
