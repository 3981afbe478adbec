use Rattle.neg_cycle.proofs.Joined.{rotated}
use Rattle.neg_cycle.proofs.rotation.rotation_law.Goals as goal

pub returns : goal.returns
returns c = rotated
