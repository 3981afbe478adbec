use Rattle.refute_tree.proofs.Moved.{batch_moved, joined}
use Rattle.book_core.proofs.Sound.{sound}
use Rattle.book_core.proofs.laws.divided_law.Goals as goal

pub returns : goal.returns
returns c problem opening events opens r = c.partition_law.ensures _ (sound problem batch_moved joined opening events opens r).cover
