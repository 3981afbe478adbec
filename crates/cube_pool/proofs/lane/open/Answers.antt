use Rattle.cube_pool.proofs.Lanes.{begins}
use Rattle.cube_pool.proofs.lane.open.Goals as goal

pub fifo_as-requires : goal.fifo_as-requires
fifo_as-requires c = begins
