use Rattle.refute_tree.proofs.References.{all_below}
use Rattle.refute_tree.proofs.batch_laws.references_law.Goals as goal

pub returns : goal.returns
returns c = all_below
