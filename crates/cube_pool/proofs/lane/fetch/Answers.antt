use Rattle.std.proofs.Common.{◌<◌, subst, sym}
use Rattle.cube_pool.specs.declared.slip.Slip.{Slip}
use Rattle.cube_pool.proofs.Lanes.{takes}
use Rattle.cube_pool.proofs.lane.fetch.Goals as goal

pub steal_as-requires-clause-takes : goal.steal_as-requires-clause-takes
steal_as-requires-clause-takes g c = takes _ _ (subst (λ (v : Slip). 0 < v.parts) (sym c.loop.invariant.seen) c.requires.parts)
