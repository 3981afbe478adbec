use Rattle.refute_tree.proofs.References.{list_within}
use Rattle.refute_tree.proofs.batch.Batch.move_to.Goals as goal

pub move_each-requires : goal.move_each-requires
move_each-requires c = list_within _ _ _ _ _ c.self.view_is c.as_mut_slice.ensures.value c.requires.fits c.requires.below
