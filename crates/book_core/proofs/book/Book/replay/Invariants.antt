use Rattle.std.proofs.Common.{◌≡◌, take}
use Rattle.book_core.specs.Runs.{ledger}
use Rattle.book_core.proofs.book.Book.replay.Given as goal

abbrev pub invariant-loop-event : goal.invariant-loop-event
invariant-loop-event l = l.book ≡ ledger l.fn.problem l.fn.opening.lemmas (take l.event-index l.events)
