-- Of the code and not of the meaning: what holds while a new literal lowers values.
use Rattle.std.specs.Prelude.{◌≡◌, ◌≢◌, ◌⊎◌, ℕ, ◌<◌, ◌≤◌, ◌+◌, ◌*◌, ◌-◌, List, [], ◌∷◌, ◌++◌, length, take, sum_by, All, Contains, ℤ, pos, negsuc, ◌+ℤ◌, ◌-ℤ◌, ◌≤ℤ◌, ◌<ℤ◌}
use Rattle.stn_core.specs.declared.literal.Literal.{Literal}
use Rattle.stn_core.specs.Answer.{IsBest}
use Rattle.stn_core.specs.Limits.{value_span}
use Rattle.stn_core.specs.Literal.{value_at, most_allowed, Holds, IsOver, literal_at}
use Rattle.stn_core.specs.Schedule.{IsSchedule, IsInRange}
use Rattle.inc_paths.specs.declared.labels.Lowering.{Lowering}
use Rattle.inc_paths.specs.code.Graphs.{Graph}
use Rattle.inc_paths.specs.code.Trails.{Labelled, entry_at, point_at, first_of, first_in, older_in, IsTraced, IsViolated}

-- how far the new literal lowers its first point
abbrev pub gap_of : List ℤ → Literal → ℤ
gap_of first new = value_at first new.x -ℤ most_allowed first new

-- the new literal is one of the literals and does not hold at first; those that begin at other points do
pub record IsStart (points : ℕ) (literals : List Literal) (new : Literal) (first : List ℤ) : Type 0 where
  pub over : All (IsOver points) literals
  pub given : Contains literals new
  pub apart : new.x ≢ new.y
  pub fails : IsViolated first new
  pub holds : (k : ℕ) → k < length literals
      → (literal_at literals k).y ≢ new.y → Holds first (literal_at literals k)
  pub range : (p : ℕ) → IsInRange (value_at first p)

-- the trail goes back to these values
pub record IsKept (start : ℕ) (first : List ℤ) (older trail : List Lowering) (values : List ℤ) : Type 0 where
  pub within : start ≤ length trail
  pub front : take start trail ≡ older
  pub back : first_of start trail values ≡ first

-- the values and the trail go back to what they were before the same literal
abbrev pub GoesBack : Labelled → Labelled → Type 0
GoesBack old new = IsKept old.start (first_in old) (older_in old) new.trail new.values

abbrev pub AreTraced : List Literal → ℕ → ℤ → Labelled → Type 0
AreTraced literals source base labels =
    (k : ℕ) → labels.start ≤ k → k < length labels.trail
    → IsTraced literals source base labels.start labels.trail k

-- the values are below those at first by at most the gap, above each schedule of the literals, and as at first where
-- the new literal begins
pub record IsBetween (points : ℕ) (literals : List Literal) (new : Literal)
    (first values : List ℤ) : Type 0 where
  pub count : length values ≡ points
  pub below : (p : ℕ) → value_at values p ≤ℤ value_at first p
  pub above : (p : ℕ) → value_at first p ≤ℤ (value_at values p +ℤ gap_of first new)
  pub bounds : (others : List ℤ) → IsSchedule points literals others
      → (p : ℕ) → p < points → value_at others p ≤ℤ value_at values p
  pub kept : value_at values new.y ≡ value_at first new.y

pub record IsLowering (points : ℕ) (literals : List Literal) (new : Literal) (first : List ℤ)
    (labels : Labelled) : Type 0 where
  pub between : IsBetween points literals new first labels.values
  pub traced : AreTraced literals new.y (value_at first new.y) labels
  pub away : (k : ℕ) → labels.start ≤ k → k < length labels.trail → point_at labels.trail k ≢ new.y
  pub queued : (fall place : ℕ) → Contains labels.queue (fall, place)
      → (labels.start ≤ place) × (place < length labels.trail)

-- the labels lower values for the new literal, from those before it on
abbrev pub Lowers : Graph → Literal → Labelled → Labelled → Type 0
Lowers graph new old labels = IsLowering graph.points graph.literals new (first_in old) labels

-- the point's value as it is now is to be looked at
abbrev pub IsWaiting : Labelled → ℕ → Type 0
IsWaiting labels point =
    (fall : ℕ) × (place : ℕ) × Contains labels.queue (fall, place) × (point_at labels.trail place ≡ point)
    × ((entry_at labels.trail place).now ≡ value_at labels.values point)

-- each literal holds, or its second point is to be looked at
abbrev pub IsPending : List Literal → Labelled → Type 0
IsPending literals labels =
    (k : ℕ) → k < length literals
    → Holds labels.values (literal_at literals k) ⊎ IsWaiting labels (literal_at literals k).y

-- the lowering at a place gave the point the value that it has
abbrev pub Gave : Labelled → ℕ → ℕ → Type 0
Gave labels place point =
    (point_at labels.trail place ≡ point) × ((entry_at labels.trail place).now ≡ value_at labels.values point)

-- the same after the lowering at a place was taken from the queue
abbrev pub IsTaken : List Literal → Labelled → ℕ → Type 0
IsTaken literals labels place =
    (k : ℕ) → k < length literals
    → Holds labels.values (literal_at literals k)
    ⊎ (IsWaiting labels (literal_at literals k).y ⊎ Gave labels place (literal_at literals k).y)

-- the same while the literals that begin at a point are looked at: those with a number from this one on have been
abbrev pub IsScanning : List Literal → Labelled → ℕ → ℕ → Type 0
IsScanning literals labels point number =
    (k : ℕ) → k < length literals
    → Holds labels.values (literal_at literals k)
    ⊎ (IsWaiting labels (literal_at literals k).y ⊎ (((literal_at literals k).y ≡ point) × (k < number)))

-- the lowering at the place is one of the new literal's, and its value still stands
pub record IsAt (labels : Labelled) (place : ℕ) : Type 0 where
  pub low : labels.start ≤ place
  pub high : place < length labels.trail
  pub now_is : (entry_at labels.trail place).now ≡ value_at labels.values (point_at labels.trail place)

-- the literal would lower the point where the new one begins
pub record IsClosing (literals : List Literal) (labels : Labelled) (source place : ℕ)
    (l : Literal) : Type 0 where
  pub given : Contains literals l
  pub x_is : l.x ≡ source
  pub y_is : l.y ≡ point_at labels.trail place
  pub lowers : ((entry_at labels.trail place).now +ℤ l.c) <ℤ value_at labels.values source

-- a measure of how far values can fall
abbrev pub height : ℤ → ℕ
height (pos n) = n + value_span
height (negsuc n) = value_span - (n + 1)

abbrev pub room : Labelled → ℕ
room labels = 2 * sum_by height labels.values + length labels.queue

-- the new literal is the last one, and the values are the greatest schedule of the others
abbrev pub IsExtending : ℕ → List Literal → Literal → List ℤ → Type 0
IsExtending points literals new values =
    (old : List Literal) × (literals ≡ old ++ new ∷ []) × IsBest points old values
