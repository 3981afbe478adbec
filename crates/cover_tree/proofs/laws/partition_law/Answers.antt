use Rattle.cover_tree.proofs.Parts.{in_one}
use Rattle.cover_tree.proofs.laws.partition_law.Goals as goal

pub returns : goal.returns
returns c cubes is values = in_one values (λ l h n. (c.negation_law.ensures.exact values l).0 n h) (c.negation_law.ensures.either values) cubes is
