-- What a worker's calls do to its seat and its hand: what stays, and what goes on.
use Rattle.std.specs.Prelude.{◌≡◌, ◌+◌, ◌-◌, ℕ, List, [], ◌∷◌, ◌++◌, Some, None, IsSome}
use mathlib.Core.List.{IsPrefix}
use Rattle.stn_core.specs.declared.problem.Problem.{Problem}
use Rattle.refute_tree.specs.Batches.{LemmaBatch}
use Rattle.book_core.specs.declared.event.Event.{Event}
use Rattle.book_core.specs.declared.event.Event.TheVariants.{Take, Deliver, Release}
use Rattle.book_core.specs.declared.event.Taken.TheVariants.{Done as TakeDone}
use Rattle.book_core.specs.declared.event.Outcome.{Outcome}
use Rattle.book_core.specs.Books.{IsJustified}
use Rattle.book_core.specs.Ends.{said_by}
use Rattle.book_lock.specs.declared.cube.Cube.{Cube}
use Rattle.book_lock.specs.declared.cube.Dealt.{Dealt}
use Rattle.book_lock.specs.declared.cube.Dealt.TheVariants.{Cube as DealtCube, Idle, Done}
use Rattle.book_lock.specs.Seats.{Sight, IsSameSeat}
use Rattle.cube_pool.specs.Hands.{Doings, fetched_there, known_there}

-- the seat of the same desk, with its number; its front and its events begin with those of before
pub record GoesOn (old new : Sight) : Type 0 where
  pub same : IsSameSeat old new
  pub front : IsPrefix old.view.front new.view.front
  pub events : IsPrefix old.view.events new.view.events

-- the hand of the same pool, with its number; what it pushed and what it fetched begins with that of before, and so
-- does what it knows of the deques' histories
pub record HandGoesOn (old new : Doings) : Type 0 where
  pub pool : new.pool ≡ old.pool
  pub number : new.number ≡ old.number
  pub pushed : IsPrefix old.pushed new.pushed
  pub fetched : (k : ℕ) → IsPrefix (fetched_there k old) (fetched_there k new)
  pub known_by_pushes : IsPrefix old.known_by_pushes new.known_by_pushes
  pub known_by_fetches : (k : ℕ) → IsPrefix (known_there k old) (known_there k new)

-- the seat's last call was answered Done
abbrev pub HasEnded : Sight → Type 0
HasEnded seat = (before : List Event) × (seat.view.events ≡ before ++ Take seat.view.number TakeDone ∷ [])

-- one where the outcome says nothing of the cube: the slice paused
abbrev pub pause_by : Outcome → ℕ
pause_by outcome = 1 - said_by outcome

abbrev pub pause_of : Event → ℕ
pause_of (Take seat taken) = 0
pause_of (Deliver seat id batch outcome) = pause_by outcome
pause_of (Release seat id) = 0

-- how many of the events are deliveries after pauses
abbrev pub pauses_in : List Event → ℕ
pauses_in [] = 0
pauses_in (event ∷ events) = pause_of event + pauses_in events

-- of the code: the seat after a `take` with this answer
abbrev pub IsAnswered : Sight → Dealt → Type 0
IsAnswered seat DealtCube = IsSome seat.cube
IsAnswered seat Idle = seat.cube ≡ None
IsAnswered seat Done = (seat.cube ≡ None) × HasEnded seat

-- of the code: the seat's problem is this one, and the seat holds a cube of it
pub record IsSearching (problem : Problem) (seat : Sight) : Type 0 where
  pub problem_is : seat.view.begun.problem ≡ problem
  pub holding : IsSome seat.cube

-- of the code: the delivery is justified of the seat's cube, over the lemmas that the seat has seen
abbrev pub IsJustifiedThere : Problem → Sight → LemmaBatch → Outcome → Type 0
IsJustifiedThere problem seat batch outcome =
    (cube : Cube) × (seat.cube ≡ Some cube) × IsJustified problem seat.lemmas cube.literals batch outcome
