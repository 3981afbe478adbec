-- What contracts see of a desk and of a seat, and what a call does.
use Rattle.std.specs.Prelude.{◌≡◌, ◌⊎◌, ℕ, ◌+◌, ◌<◌, ◌≤◌, true, false, List, [], ◌∷◌, ◌++◌, length, drop, take, slice_get, Option, Some, None, IsSome, IfSome, Bool}
use Rattle.std.proofs.Common.{arith}
use mathlib.Core.List.{IsPrefix}
use Rattle.atomic_table.specs.Seated.{TableId}
use Rattle.stn_core.specs.declared.problem.Problem.{Problem}
use Rattle.book_core.specs.Runs.{Ledger}
use Rattle.refute_tree.specs.declared.lemma.Lemma.{Lemma}
use Rattle.cover_tree.specs.declared.node.Node.TheVariants.{Free, Held}
use Rattle.cover_tree.specs.Covers.{Cubes, node_at, cube_at}
use Rattle.book_core.specs.declared.event.Event.{Event}
use Rattle.book_core.specs.declared.event.Event.TheVariants.{Take}
use Rattle.book_core.specs.declared.event.Taken.TheVariants.{Done as TakeDone, Idle as TakeIdle, Cube as TakeCube}
use Rattle.book_core.specs.Books.{State, IsAllowed}
use Rattle.book_core.specs.Halves.{halves_after}
use Rattle.book_lock.specs.declared.cube.Cube.{Cube}
use Rattle.book_lock.specs.declared.cube.Dealt.{Dealt}
use Rattle.book_lock.specs.declared.cube.Dealt.TheVariants.{Done, Idle, Cube as DealtCube}
use Rattle.book_lock.specs.declared.view.View.{View}
use Rattle.book_lock.specs.declared.view.Kept.{Kept}
use Rattle.book_lock.specs.SeatEvents.{events_by, held_from, IsOrderlyFrom, ended_idle, HasNewsFor}
use Rattle.book_lock.specs.Rules.{kept_of}
use Rattle.book_lock.specs.Begun.{Opens, Runs, reached, fresh}

pub record Place : Type 0 where
  pub id : TableId
  -- the book without a call
  pub begun : Ledger

-- a seat: its desk, what it knows, the lemmas that it has seen, the cube that it holds, and the two halves of
-- its own last delivery, where it divided its cube
pub record Sight : Type 0 where
  pub desk : TableId
  pub view : View
  pub lemmas : List Lemma
  pub cube : Option Cube
  pub halves : Option (ℕ × ℕ)

abbrev pub sight : TableId → View → List Lemma → Option Cube → Option (ℕ × ℕ) → Sight
sight t v lemmas cube halves = record { desk = t; view = v; lemmas = lemmas; cube = cube; halves = halves }

-- the cube is held by the seat, and has these literals
abbrev pub IsCubeOfSeat : Cubes → ℕ → Cube → Type 0
IsCubeOfSeat c n cube = (node_at c cube.id ≡ Some (Held n)) × (cube.literals ≡ cube_at c cube.id)

abbrev pub id_of : Option Cube → Option ℕ
id_of None = None
id_of (Some cube) = Some cube.id

-- at each time one cube at most, and none at the end
abbrev pub AreEnded : List Event → Type 0
AreEnded events = IsOrderlyFrom None events × (held_from None events ≡ None)

abbrev pub AllEnded : List Kept → Type 0
AllEnded [] = Unit {0}
AllEnded (k ∷ ks) = AreEnded k.events × AllEnded ks

-- with the seat's last call it got the cube
abbrev pub WasTaken : View → Cube → Type 0
WasTaken v cube =
    (past : List Event) × IsPrefix past v.front × (events_by v.number past ≡ v.events)
    × IsCubeOfSeat (reached v.begun past).cover v.number cube

-- Of the code and not of the meaning: how a seat's parts hang together
pub record IsSeated (v : View) (lemmas : List Lemma) (holding : Option Cube) (place : ℕ) (waits : Bool)
    : Type 0 where
  pub opens : Opens v.begun
  pub run : Runs v.begun v.front
  pub seen : IsPrefix lemmas (reached v.begun v.front).lemmas
  pub holds : IfSome holding (WasTaken v)
  pub orderly : IsOrderlyFrom None v.events
  pub held : held_from None v.events ≡ id_of holding
  pub within : place ≤ length v.front
  -- the first so many events of the front have among them all that are the seat's
  pub before : events_by v.number (take place v.front) ≡ v.events
  pub idle : waits ≡ ended_idle v.events
  pub kept : AllEnded v.kept

-- the seat's view after a call, between being what others did since its last one
abbrev pub calling : View → List Event → Event → View
calling v between e = record v { front = (v.front ++ between) ++ e ∷ []; events = v.events ++ e ∷ [] }

-- The new front is a run that begins with the old one and ends with this call, which may come there. The seat's
-- events are its old ones and this call's, and they are the front's with its number
pub record Called (v w : View) (between : List Event) (e : Event) : Type 0 where
  pub view : w ≡ calling v between e
  pub allowed : IsAllowed v.begun.problem (reached v.begun (v.front ++ between)) e
  pub run : Runs v.begun w.front
  pub made : events_by v.number w.front ≡ w.events

-- the event of a take, and the cube after it, by the answer
abbrev pub DealtAs : ℕ → State → Dealt → Event → Option Cube → Type 0
DealtAs n s Done e cube = (e ≡ Take n TakeDone) × (cube ≡ None)
DealtAs n s Idle e cube = (e ≡ Take n TakeIdle) × (cube ≡ None)
DealtAs n s DealtCube e cube =
    (id : ℕ) × (e ≡ Take n (TakeCube id)) × (cube ≡ Some (record { id = id; literals = cube_at s.cover id }))

-- What a `take` does. The answer is what the book's relation gives where all that was told before the call is
-- known; the seat has all lemmas then; after an Idle there is news behind the seat's events, an event other than
-- such a take, which the seat may have come to see by taking in another seat
pub record Takes (old new : Sight) (answer : Dealt) : Type 0 where
  pub between : List Event
  pub event : Event
  pub called : Called old.view new.view between event
  pub answered : DealtAs old.view.number (reached old.view.begun (old.view.front ++ between)) answer event new.cube
  pub desk : new.desk ≡ old.desk
  pub lemmas : new.lemmas ≡ (reached old.view.begun new.view.front).lemmas
  pub halves : new.halves ≡ old.halves
  pub waited : ended_idle old.view.events ≡ true → HasNewsFor old.view.number (old.view.front ++ between)

-- where the leaf with this number is Free, the cube that is taken is that one
abbrev pub IsCubeNear : Cubes → Option Cube → ℕ → Type 0
IsCubeNear c cube id = node_at c id ≡ Some Free → IfSome cube (λ (k : Cube). k.id ≡ id)

-- a `take` near a leaf
abbrev pub TakesNear : Sight → Sight → Option ℕ → Dealt → Type 0
TakesNear old new near answer =
    (takes : Takes old new answer)
    × IfSome near (IsCubeNear (reached old.view.begun (old.view.front ++ takes.between)).cover new.cube)

-- what a call does that ends the seat's cube, which is still held by it there, with the same literals
pub record Ends (old new : Sight) (event : Event) : Type 0 where
  pub between : List Event
  pub called : Called old.view new.view between event
  pub same : new ≡ sight old.desk new.view old.lemmas None
      (halves_after (reached old.view.begun (old.view.front ++ between)) event old.halves)
  pub held : IfSome old.cube (IsCubeOfSeat (reached old.view.begun (old.view.front ++ between)).cover old.view.number)

abbrev pub counted : View → View
counted v = record v { seats = v.seats + 1 }

-- a seat that has seen as much, and made no call
abbrev pub newcomer : View → View
newcomer v = record {
  number = v.seats;
  seats = 0;
  turn = false;
  spent = false;
  begun = v.begun;
  front = v.front;
  known = [];
  events = [];
  kept = [];
}

-- the first list, and what the second has beyond it: of two beginnings of one list the longer
abbrev pub longer : List Event → List Event → List Event
longer xs ys = xs ++ drop (length xs) ys

abbrev pub kept_from : View → Kept
kept_from w = record { number = w.number; front = w.front; events = w.events }

-- seat 0 with what another seat had seen, and that seat's events
abbrev pub merged : View → View → View
merged v w = record v { front = longer v.front w.front; kept = kept_from w ∷ v.kept }

-- one of two fronts begins the other, and the longer one is kept
abbrev pub OneBegins : List Event → List Event → List Event → Type 0
OneBegins xs ys kept = (IsPrefix xs ys × (kept ≡ ys)) ⊎ (IsPrefix ys xs × (kept ≡ xs))

abbrev pub no_problem : Problem
no_problem = record {
  points = 1;
  clauses = [];
  some = omega arith;
  few = omega arith;
  over = λ k d h. absurd (omega (arith, h));
}

abbrev pub nobody : View
nobody = record {
  number = 0;
  seats = 0;
  turn = false;
  spent = true;
  begun = fresh no_problem [];
  front = [];
  known = [];
  events = [];
  kept = [];
}

-- every other seat was joined
abbrev pub AllJoined : View → Type 0
AllJoined v = (n : ℕ) → 0 < n → n < v.seats → IsSome (kept_of n v.kept)

-- the journal's events are the known events of all seats
abbrev pub AllKnown : View → Type 0
AllKnown v =
    (events_by 0 v.front ≡ v.events)
    × ((n : ℕ) → 0 < n → n < v.seats → kept_of n v.kept ≡ Some (events_by n v.front))
    × ((n : ℕ) → v.seats ≤ n → events_by n v.front ≡ [])

-- some seat was answered Done
abbrev pub WasDone : List Event → Type 0
WasDone front = (n : ℕ) × (k : ℕ) × (slice_get front k ≡ Some (Take n TakeDone))

-- the same seat, which may have seen more and made calls
abbrev pub IsSameSeat : Sight → Sight → Type 0
IsSameSeat s t =
    (t.desk ≡ s.desk) × (t.view.number ≡ s.view.number) × (t.view.seats ≡ s.view.seats)
    × (t.view.kept ≡ s.view.kept) × (t.view.begun ≡ s.view.begun)
