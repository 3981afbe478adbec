use Rattle.book_core.proofs.Runs.{allowed_at}
use Rattle.book_core.proofs.Concluding.{got}
use Rattle.book_core.proofs.book.Book.replay.Goals as goal

pub repeat-requires : goal.repeat-requires
repeat-requires c = allowed_at c.args.problem c.args.opening.lemmas c.args.events.now c.loop-event.event-index c.event-item.result c.loop-event.book c.requires.run
    (got c.args.events.now c.loop-event.event-index c.event-item.result c.loop-event-test.true c.event-item.is) c.loop-event.invariant
