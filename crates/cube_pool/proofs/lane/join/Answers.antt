use Rattle.cube_pool.proofs.Lanes.{merges}
use Rattle.cube_pool.proofs.lane.join.Goals as goal

pub absorb-requires-clause-rule : goal.absorb-requires-clause-rule
absorb-requires-clause-rule c = merges _ _ _ _ c.requires.parts.0 c.requires.put c.requires.parts.1
