use Rattle.std.proofs.Common.{◌≡◌, vec_len}
use Rattle.cube_pool.specs.Lanes.{whole}
use Rattle.cube_pool.specs.code.Closings.{AreOpenWith}
use Rattle.cube_pool.proofs.opening.open_lanes.Given as goal

abbrev pub invariant-loop-i : goal.invariant-loop-i
invariant-loop-i l = record { count : vec_len l.lanes ≡ l._i; open_ : AreOpenWith whole l.lanes.items }
