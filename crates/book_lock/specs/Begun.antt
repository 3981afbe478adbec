-- A desk's book from its beginning on: the problem and the lemmas that it opened with, and the events behind them.
use Rattle.std.specs.Prelude.{List, []}
use Rattle.stn_core.specs.declared.problem.Problem.{Problem}
use Rattle.refute_tree.specs.declared.lemma.Lemma.{Lemma}
use Rattle.book_core.specs.declared.event.Event.{Event}
use Rattle.book_core.specs.Books.{State, IsOpening}
use Rattle.book_core.specs.Runs.{Ledger, ledger, IsRun, replayed}

-- it opened with lemmas that it may open with
abbrev pub Opens : Ledger → Type 0
Opens b = IsOpening b.problem b.opening

-- the events are a run from the opening on
abbrev pub Runs : Ledger → List Event → Type 0
Runs b events = IsRun b.problem b.opening events

-- the state that they lead to
abbrev pub reached : Ledger → List Event → State
reached b events = replayed b.opening events

-- the book with these events
abbrev pub with_events : Ledger → List Event → Ledger
with_events b events = ledger b.problem b.opening events

-- the book without a call
abbrev pub fresh : Problem → List Lemma → Ledger
fresh problem opening = ledger problem opening []
