use Rattle.cube_pool.proofs.Lanes.{puts}
use Rattle.cube_pool.proofs.lane.push.Goals as goal

pub push_as-requires-clause-pushes : goal.push_as-requires-clause-pushes
push_as-requires-clause-pushes c = puts _ _ _ c.requires.parts.0 c.requires.parts.1
