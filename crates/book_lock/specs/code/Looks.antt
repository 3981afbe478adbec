-- What a take on the book gives the seat.
use Rattle.std.specs.Prelude.{◌≡◌, ℕ, Bool, true, false, Option, Some, None}
use Rattle.book_core.specs.declared.event.Event.{Event}
use Rattle.book_core.specs.declared.answer.Answer.{Answer}
use Rattle.book_core.specs.declared.answer.Answer.TheVariants.{Done as AnswerDone, Idle as AnswerIdle, Cube as AnswerCube}
use Rattle.book_core.specs.Books.{IsAllowed}
use Rattle.book_core.specs.Runs.{Ledger, state_of, with_event}
use Rattle.book_lock.specs.declared.cube.Cube.{Cube}
use Rattle.book_lock.specs.declared.cube.Dealt.{Dealt}
use Rattle.book_lock.specs.declared.cube.Dealt.TheVariants.{Done, Idle, Cube as DealtCube}
use Rattle.book_lock.specs.SeatEvents.{seat_of}
use Rattle.book_lock.specs.Seats.{DealtAs}

abbrev pub dealt_of : Answer → Dealt
dealt_of AnswerDone = Done
dealt_of AnswerIdle = Idle
dealt_of (AnswerCube id literals) = DealtCube

abbrev pub cube_of : Answer → Option Cube
cube_of AnswerDone = None
cube_of AnswerIdle = None
cube_of (AnswerCube id literals) = Some (record { id = id; literals = literals })

-- the next take waits
abbrev pub waits_of : Dealt → Bool
waits_of Done = false
waits_of Idle = true
waits_of DealtCube = false

-- the book is one event longer, the seat's take, and has the same lemmas
pub record Looked (old : Ledger) (n : ℕ) (answer : Dealt) (cube : Option Cube) (new : Ledger) : Type 0 where
  pub event : Event
  pub allowed : IsAllowed old.problem (state_of old) event
  pub longer : new ≡ with_event old event
  pub own : seat_of event ≡ n
  pub taken : DealtAs n (state_of old) answer event cube
  pub lemmas : (state_of new).lemmas ≡ (state_of old).lemmas
