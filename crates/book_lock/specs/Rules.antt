-- The rule of the desk's table, and what each step tells.
-- Word 0 is the turn, word 1 the length of the journal, slot 0 the book's place.
--
-- The desk and its rule are this project's own; the table and its steps are those of atomic_table.
use Rattle.std.specs.Prelude.{◌≡◌, ◌≢◌, ◌⊎◌, ℕ, ◌<◌, ◌≤◌, ◌==◌, true, false, cond, List, [], ◌∷◌, ◌++◌, length, drop, slice_index, Option, Some, None, MatchBool}
use mathlib.Core.Option.{some}
use mathlib.Core.List.{IsPrefix}
use lib.ListN.{get_elem?}
use Rattle.atomic_table.specs.Seated.{TableId}
use Rattle.atomic_table.specs.Table.{State, Me, Step}
use Rattle.book_core.specs.declared.event.Event.{Event}
use Rattle.book_lock.specs.declared.view.View.{View}
use Rattle.book_lock.specs.declared.view.Kept.{Kept}
use Rattle.book_core.specs.Runs.{Ledger}
use Rattle.book_lock.specs.SeatEvents.{seat_of, events_by}
use Rattle.book_lock.specs.Begun.{Opens, Runs, with_events}

abbrev pub St : Type 0
St = State (Option Ledger) View

abbrev pub Mine : Type 0
Mine = Me (Option Ledger) View

-- the view stands among these at this number
abbrev pub At : List View → ℕ → View → Type 0
At views i v = get_elem? views i ≡ some v

-- some view that isn't spent has this number
abbrev pub Active : ℕ → List View → Type 0
Active n views = (i : ℕ) × (v : View) × At views i v × (v.spent ≡ false) × (v.number ≡ n)

-- the events that are kept for a joined seat
abbrev pub kept_of : ℕ → List Kept → Option (List Event)
kept_of n [] = None
kept_of n (k ∷ ks) = cond (k.number == n) (Some k.events) (kept_of n ks)

-- the journal begins with what each joined seat had seen
abbrev pub AllBegin : List Kept → List Event → Type 0
AllBegin [] log = Unit {0}
AllBegin (k ∷ ks) log = IsPrefix k.front log × AllBegin ks log

-- what holds of each view that isn't spent, n being the number of seats that were made
pub record Fits (p : Ledger) (log : List Event) (n : ℕ) (v : View) : Type 0 where
  pub front : IsPrefix v.front log
  pub made : events_by v.number log ≡ v.events
  pub seen : events_by v.number v.front ≡ v.events
  pub begun : v.begun ≡ p
  pub known : v.turn ≡ true → v.known ≡ log
  pub below : v.number < n

pub record Holds (p : Ledger) (s : St) : Type 0 where
  pub log : List Event
  pub seats : ℕ
  pub kept : List Kept
  pub opens : Opens p
  pub run : Runs p log
  pub head : (v : View) × At s.views 0 v × (v.number ≡ 0) × (v.spent ≡ false) × (v.seats ≡ seats)
      × (v.kept ≡ kept)
  pub wide : length s.words ≡ 2
  pub told : slice_index s.words 1 ≡ length log
  pub longest : (i : ℕ) × (v : View) × At s.views i v × (v.spent ≡ false) × (v.front ≡ log)
  pub free : slice_index s.words 0 ≡ 0 → get_elem? s.homes 0 ≡ some (some (Some (with_events p log)))
  pub idle : slice_index s.words 0 ≡ 0 → (i : ℕ) (v : View) → At s.views i v → v.turn ≡ false
  pub busy : slice_index s.words 0 ≢ 0 → (i : ℕ) × (v : View) × At s.views i v × (v.turn ≡ true)
  pub one : (i j : ℕ) (u v : View)
      → At s.views i u → At s.views j v → u.turn ≡ true → v.turn ≡ true → i ≡ j
  pub spent : (i : ℕ) (v : View) → At s.views i v → v.spent ≡ true → v.turn ≡ false
  pub fits : (i : ℕ) (v : View) → At s.views i v → v.spent ≡ false → Fits p log seats v
  pub apart : (i j : ℕ) (u v : View) → At s.views i u → At s.views j v → u.spent ≡ false → v.spent ≡ false
      → u.number ≡ v.number → i ≡ j
  pub joined : (n : ℕ) → n < seats → Active n s.views ⊎ (kept_of n kept ≡ Some (events_by n log))
  pub away : (i : ℕ) (v : View) → At s.views i v → v.spent ≡ false → kept_of v.number kept ≡ None
  pub beyond : (n : ℕ) → seats ≤ n → events_by n log ≡ []
  pub fronts : AllBegin kept log
  pub unmade : (n : ℕ) → seats ≤ n → kept_of n kept ≡ None

-- the table's first view
abbrev pub opener : Ledger → View
opener p = record {
  number = 0;
  seats = 1;
  turn = false;
  spent = false;
  begun = p;
  front = [];
  known = [];
  events = [];
  kept = [];
}

-- a seat of the desk's table
abbrev pub IsOfDesk : TableId → TableId → Type 0
IsOfDesk seat table = (seat ≡ table) × (table.words ≡ 2) × (table.slots ≡ 1)

-- the seat hasn't the turn
abbrev pub Rests : Mine → Type 0
Rests me = (me.1 ≡ []) × (me.0.turn ≡ false) × (me.0.spent ≡ false) × (me.0.known ≡ [])

-- it has the turn, and the book is out of the slot
abbrev pub HasTurn : Mine → Type 0
HasTurn me = (me.1 ≡ (0, None) ∷ []) × (me.0.turn ≡ true) × (me.0.spent ≡ false)

-- the book's journal is a run, the known one and an event of the seat
abbrev pub HasOneMore : View → Ledger → Type 0
HasOneMore v book =
    (e : Event) × (book ≡ with_events v.begun (v.known ++ e ∷ [])) × (seat_of e ≡ v.number)
    × Runs v.begun book.journal

-- The turn was free, and the seat has it, with the book; or nothing changed
abbrev pub entered : View → List Event → View
entered v log = record v { turn = true; known = log }

abbrev pub Entered : View → List Event → Type 0
Entered v log =
    Runs v.begun log × IsPrefix v.front log × (events_by v.number log ≡ v.events)
    × (events_by v.number v.front ≡ v.events)

abbrev pub Enters : Step (Option Ledger) → Mine → ℕ → Mine → Type 0
Enters st me n me' =
    MatchBool (n == 0)
    ((log : List Event) × (me' ≡ (entered me.0 log, (0, Some (with_events me.0.begun log)) ∷ me.1))
    × Entered me.0 log)
    (me' ≡ me)

-- the journal of the book in hand
abbrev pub journal_of : List (ℕ × Option Ledger) → List Event
journal_of [] = []
journal_of ((k, Some b) ∷ more) = b.journal
journal_of ((k, None) ∷ more) = []

-- the event at the end of the journal is the seat's, and becomes known
abbrev pub telling : View → List Event → View
telling v es = record v { front = es; known = es; events = v.events ++ drop (length v.known) es }

abbrev pub Tells : Step (Option Ledger) → Mine → ℕ → Mine → Type 0
Tells st me n me' = me' ≡ (telling me.0 (journal_of me.1), me.1)

abbrev pub resting : View → View
resting v = record v { turn = false; known = [] }

abbrev pub Leaves : Step (Option Ledger) → Mine → ℕ → Mine → Type 0
Leaves st me n me' = me' ≡ (resting me.0, [])

-- nothing changed, and the seat's front is of one journal, a run, with those of the seats that it took in
abbrev pub Seen : View → List Event → Type 0
Seen v log = IsPrefix v.front log × (v.number ≡ 0 → AllBegin v.kept log) × Runs v.begun log

abbrev pub Sees : Step (Option Ledger) → Mine → ℕ → Mine → Type 0
Sees st me n me' = (me' ≡ me) × ((log : List Event) × Seen me.0 log)
