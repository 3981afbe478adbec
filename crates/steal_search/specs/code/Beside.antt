-- Of the code and not of the meaning: a worker that searches the whole, under no cube.
use Rattle.std.specs.Prelude.{◌≡◌}
use Rattle.book_core.specs.declared.event.Outcome.{Outcome}
use Rattle.book_core.specs.declared.event.Outcome.TheVariants.{Found, Shut as ShutBy, Split as SplitBy, Open}
use Rattle.book_lock.specs.Begun.{reached}
use Rattle.book_lock.specs.Seats.{Sight}

-- the seat has seen all lemmas of the book that its front leads to
abbrev pub IsUpToDate : Sight → Type 0
IsUpToDate seat = seat.lemmas ≡ (reached seat.view.begun seat.view.front).lemmas

-- what is told of a cube where this was found of the whole
abbrev pub told_of : Outcome → Outcome
told_of (Found values) = Found values
told_of (ShutBy j) = ShutBy j
told_of (SplitBy l) = Open
told_of Open = Open

-- it may be told of a cube
abbrev pub IsTold : Outcome → Type 0
IsTold outcome = told_of outcome ≡ outcome
