use Rattle.cover_tree.proofs.Branching.{branches}
use Rattle.cover_tree.proofs.laws.branches_law.Goals as goal

pub returns : goal.returns
returns c = branches
