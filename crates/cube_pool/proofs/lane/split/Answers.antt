use Rattle.cube_pool.proofs.Lanes.{forks}
use Rattle.cube_pool.proofs.lane.split.Goals as goal

pub another-requires : goal.another-requires
another-requires c = forks _ _ c.requires
