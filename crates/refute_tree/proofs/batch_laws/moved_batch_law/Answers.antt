use Rattle.refute_tree.proofs.Moved.{batch_moved}
use Rattle.refute_tree.proofs.batch_laws.moved_batch_law.Goals as goal

pub returns : goal.returns
returns c = batch_moved
