-- A book is a problem, the lemmas that it opened with, and its journal; the journal is a run, and its replay is the state.
use Rattle.std.specs.Prelude.{◌≡◌, ℕ, ◌+◌, ◌≤◌, List, [], ◌∷◌, ◌++◌, length, take, Option, Some}
use Rattle.stn_core.specs.declared.problem.Problem.{Problem}
use Rattle.refute_tree.specs.declared.lemma.Lemma.{Lemma}
use Rattle.cover_tree.specs.declared.node.Node.TheVariants.{Free}
use Rattle.cover_tree.specs.Covers.{Cubes, node_at, cube_at, held_count}
use Rattle.book_core.specs.declared.event.Event.{Event}
use Rattle.book_core.specs.declared.event.Event.TheVariants.{Take}
use Rattle.book_core.specs.declared.event.Taken.{Taken}
use Rattle.book_core.specs.declared.event.Taken.TheVariants.{Done, Idle, Cube}
use Rattle.book_core.specs.declared.answer.Answer.{Answer}
use Rattle.book_core.specs.declared.answer.Answer.TheVariants.{Done as AnswerDone, Idle as AnswerIdle, Cube as AnswerCube}
use Rattle.book_core.specs.Books.{State, opened, IsOpening, IsAllowed, after}
use Rattle.book_core.specs.Halves.{halves_of}

-- each event may come where it comes
abbrev pub IsRunFrom : Problem → State → List Event → Type 0
IsRunFrom problem s [] = Unit {0}
IsRunFrom problem s (e ∷ es) = IsAllowed problem s e × IsRunFrom problem (after s e) es

-- a run: from the opening on
abbrev pub IsRun : Problem → List Lemma → List Event → Type 0
IsRun problem opening events = IsRunFrom problem (opened opening) events

abbrev pub replayed_from : State → List Event → State
replayed_from s [] = s
replayed_from s (e ∷ es) = replayed_from (after s e) es

-- the state that the events lead to
abbrev pub replayed : List Lemma → List Event → State
replayed opening events = replayed_from (opened opening) events

pub record Ledger : Type 0 where
  pub problem : Problem
  pub opening : List Lemma
  pub journal : List Event

abbrev pub ledger : Problem → List Lemma → List Event → Ledger
ledger problem opening journal = record { problem = problem; opening = opening; journal = journal }

abbrev pub state_of : Ledger → State
state_of b = replayed b.opening b.journal

-- the ledger with one event more
abbrev pub with_event : Ledger → Event → Ledger
with_event b e = record { problem = b.problem; opening = b.opening; journal = b.journal ++ e ∷ [] }

-- the call added this event, which may come there
abbrev pub Records : Ledger → Event → Ledger → Type 0
Records old e new = IsAllowed old.problem (state_of old) e × (new ≡ with_event old e)

-- a `take` by the seat, with this answer
abbrev pub Answers : Ledger → ℕ → Answer → Ledger → Type 0
Answers old seat AnswerDone new = Records old (Take seat Done) new
Answers old seat AnswerIdle new = Records old (Take seat Idle) new
Answers old seat (AnswerCube id cube) new =
    Records old (Take seat (Cube id)) new × (cube ≡ cube_at (state_of old).cover id)

-- where the leaf with this number is Free, the cube that is answered is that one
abbrev pub IsNear : Cubes → ℕ → Answer → Type 0
IsNear c id AnswerDone = Unit {0}
IsNear c id AnswerIdle = Unit {0}
IsNear c id (AnswerCube k cube) = node_at c id ≡ Some Free → k ≡ id

-- the answer as it stands in the event
abbrev pub told_as : Answer → Taken
told_as AnswerDone = Done
told_as AnswerIdle = Idle
told_as (AnswerCube id cube) = Cube id

-- Of the code and not of the meaning: the first so many lemmas are those that it opened with, its state is the journal's
-- replay from them, the halves are those of its last delivery, and there is room for an event of each Held leaf
pub record IsKept (problem : Problem) (count : ℕ) (events : List Event) (s : State) (halves : Option (ℕ × ℕ)) (room : ℕ)
    : Type 0 where
  pub within : count ≤ length s.lemmas
  pub opens : IsOpening problem (take count s.lemmas)
  pub run : IsRun problem (take count s.lemmas) events
  pub same : s ≡ replayed (take count s.lemmas) events
  pub divided : halves ≡ halves_of (take count s.lemmas) events
  pub reserved : length events + held_count s.cover.nodes ≤ room
