use Rattle.book_core.proofs.Sound.{done_kept}
use Rattle.book_core.proofs.laws.done_kept_law.Goals as goal

pub returns : goal.returns
returns c = done_kept
