use Rattle.refute_tree.proofs.Moved.{joined}
use Rattle.refute_tree.proofs.batch_laws.joined_law.Goals as goal

pub returns : goal.returns
returns c = joined
