use Rattle.book_core.specs.Runs.{replayed}
use Rattle.book_core.proofs.Sound.{sound, event_sound}
use Rattle.book_core.proofs.Ends.{short, leaves, few}
use Rattle.book_core.proofs.laws.ends_law.Goals as goal

pub returns-clause-short : goal.returns-clause-short
returns-clause-short c problem opening events opens r k = short problem (replayed opening events) (sound problem c.moved_batch_law.ensures c.joined_law.ensures opening events opens r) k

pub returns-clause-ends : goal.returns-clause-ends
returns-clause-ends c problem opening events e opens r a none =
    let here = sound problem c.moved_batch_law.ensures c.joined_law.ensures opening events opens r in
    leaves problem (replayed opening events) e here (event_sound problem c.moved_batch_law.ensures c.joined_law.ensures (replayed opening events) e here a) a none

pub returns-clause-few : goal.returns-clause-few
returns-clause-few c problem opening events opens r none = few problem c.moved_batch_law.ensures c.joined_law.ensures opening events opens r none
