use Rattle.book_core.proofs.Sound.{sound}
use Rattle.book_core.proofs.laws.sound_law.Goals as goal

pub returns : goal.returns
returns c problem opening events opens r = sound problem c.moved_batch_law.ensures c.joined_law.ensures opening events opens r
