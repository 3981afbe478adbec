-- The events of one seat, which are its calls, and what they leave it with.
use Rattle.std.specs.Prelude.{◌≡◌, ℕ, ◌≤◌, ◌==◌, Bool, true, false, List, [], ◌∷◌, drop, filter, Option, Some, None, slice_get}
use Rattle.book_core.specs.declared.event.Event.{Event}
use Rattle.book_core.specs.declared.event.Event.TheVariants.{Take, Deliver, Release}
use Rattle.book_core.specs.declared.event.Taken.TheVariants.{Done, Idle, Cube}

-- who made the call
abbrev pub seat_of : Event → ℕ
seat_of (Take seat answer) = seat
seat_of (Deliver seat id batch outcome) = seat
seat_of (Release seat id) = seat

-- the events of one seat, in order
abbrev pub events_by : ℕ → List Event → List Event
events_by n es = filter (λ e. seat_of e == n) es

-- the cube that the seat has after the call
abbrev pub held_after : Event → Option ℕ
held_after (Take seat Done) = None
held_after (Take seat Idle) = None
held_after (Take seat (Cube id)) = Some id
held_after (Deliver seat id batch outcome) = None
held_after (Release seat id) = None

abbrev pub held_from : Option ℕ → List Event → Option ℕ
held_from held [] = held
held_from held (e ∷ es) = held_from (held_after e) es

-- a take comes where no cube is held, and what ends a cube where that one is
abbrev pub IsDue : Option ℕ → Event → Type 0
IsDue held (Take seat answer) = held ≡ None
IsDue held (Deliver seat id batch outcome) = held ≡ Some id
IsDue held (Release seat id) = held ≡ Some id

-- at each time one cube at most
abbrev pub IsOrderlyFrom : Option ℕ → List Event → Type 0
IsOrderlyFrom held [] = Unit {0}
IsOrderlyFrom held (e ∷ es) = IsDue held e × IsOrderlyFrom (held_after e) es

abbrev pub is_idle : Event → Bool
is_idle (Take seat Done) = false
is_idle (Take seat Idle) = true
is_idle (Take seat (Cube id)) = false
is_idle (Deliver seat id batch outcome) = false
is_idle (Release seat id) = false

abbrev pub idle_from : Bool → List Event → Bool
idle_from idle [] = idle
idle_from idle (e ∷ es) = idle_from (is_idle e) es

-- the last call was a take answered Idle
abbrev pub ended_idle : List Event → Bool
ended_idle events = idle_from false events

-- from this place on there is an event other than a take answered Idle
abbrev pub HasNews : ℕ → List Event → Type 0
HasNews place es = (k : ℕ) × (e : Event) × (place ≤ k) × (slice_get es k ≡ Some e) × (is_idle e ≡ false)

-- behind all events of the seat there is an event other than a take answered Idle
abbrev pub HasNewsFor : ℕ → List Event → Type 0
HasNewsFor n es =
    (k : ℕ) × (e : Event) × (slice_get es k ≡ Some e) × (is_idle e ≡ false) × (events_by n (drop k es) ≡ [])
