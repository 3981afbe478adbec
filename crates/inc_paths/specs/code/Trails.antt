-- Of the code and not of the meaning: the trail of lowerings.
use Rattle.std.specs.Prelude.{◌≡◌, ℕ, zero, suc, ◌<◌, ◌≤◌, ◌-◌, List, [], ◌∷◌, length, drop, take, replicate, All, Contains, slice_index_or, slice_set, ℤ, pos, ◌+ℤ◌, ◌-ℤ◌, ◌<ℤ◌, unsigned_abs}
use Rattle.std.specs.List.{AllByRecursion}
use Rattle.std.specs.declared.cmp.Ordering.{Ordering}
use Rattle.std.specs.Ordering.{nat_cmp, ordering_then}
use Rattle.stn_core.specs.declared.literal.Literal.{Literal}
use Rattle.stn_core.specs.Literal.{value_at, most_allowed}
use Rattle.inc_paths.specs.declared.labels.Lowering.{Lowering}

pub record Labelled : Type 0 where
  pub values : List ℤ
  pub trail : List Lowering
  pub start : ℕ
  pub queue : List (ℕ × ℕ)

abbrev pub no_lowering : Lowering
no_lowering = record { literal = record { x = 0; y = 0; c = pos 0 }; now = pos 0; old = pos 0; parent = 0 }

abbrev pub entry_at : List Lowering → ℕ → Lowering
entry_at trail place = slice_index_or trail place no_lowering

-- the literal lowers its first point to what it allows
abbrev pub lowering : List ℤ → Literal → ℕ → Lowering
lowering values literal parent =
    record {
      literal = literal;
      now = most_allowed values literal;
      old = value_at values literal.x;
      parent = parent;
    }

-- the values after it
abbrev pub lowered_values : List ℤ → Literal → List ℤ
lowered_values values literal = slice_set values literal.x (most_allowed values literal)

-- the point that a lowering lowered
abbrev pub point_at : List Lowering → ℕ → ℕ
point_at trail place = (entry_at trail place).literal.x

abbrev pub last_entry : List Lowering → Lowering
last_entry trail = entry_at trail (length trail - 1)

-- the values before a lowering
abbrev pub undone_one : Lowering → List ℤ → List ℤ
undone_one e values = slice_set values e.literal.x e.old

-- the values before these lowerings
abbrev pub undone : List Lowering → List ℤ → List ℤ
undone [] values = values
undone (e ∷ es) values = undone_one e (undone es values)

-- the values before the lowerings from a place on
abbrev pub first_of : ℕ → List Lowering → List ℤ → List ℤ
first_of start trail values = undone (drop start trail) values

-- the lowerings are of the points, and the values before those from the start on are at hand
pub record IsLabelled (values : List ℤ) (trail : List Lowering) (start : ℕ) (before : List ℤ) : Type 0 where
  pub points : All (λ (e : Lowering). e.literal.x < length values) trail
  pub count : length before ≡ length values
  pub within : start ≤ length trail
  pub began : before ≡ first_of start trail values

-- the values before the start, and the trail before it
abbrev pub first_in : Labelled → List ℤ
first_in labels = first_of labels.start labels.trail labels.values

abbrev pub older_in : Labelled → List Lowering
older_in labels = take labels.start labels.trail

-- how far the literal's first point falls below its value before the start, where it is lowered to what the literal
-- allows
abbrev pub fall_of : Labelled → Literal → ℕ
fall_of labels l = unsigned_abs (value_at (first_in labels) l.x -ℤ most_allowed labels.values l)

-- the queue with the lowering that the literal makes next
abbrev pub queued : Labelled → Literal → List (ℕ × ℕ)
queued labels l = (fall_of labels l, length labels.trail) ∷ labels.queue

-- the order in the queue: by the fall, and by the place where falls are the same
abbrev pub queue_order : ℕ × ℕ → ℕ × ℕ → Ordering
queue_order a b = ordering_then (nat_cmp a.0 b.0) (nat_cmp a.1 b.1)

-- no other falls further
abbrev pub FallsFurthest : ℕ × ℕ → List (ℕ × ℕ) → Type 0
FallsFurthest item others = AllByRecursion (λ (other : ℕ × ℕ). other.0 ≤ item.0) others

-- the value that a lowering gave still stands
abbrev pub IsCurrent : Labelled → ℕ → Type 0
IsCurrent labels place =
    value_at labels.values (point_at labels.trail place) ≡ (entry_at labels.trail place).now

-- the literal does not hold on the values
abbrev pub IsViolated : List ℤ → Literal → Type 0
IsViolated values l = most_allowed values l <ℤ value_at values l.x

-- before the first literal
abbrev pub unlabelled : ℕ → Labelled
unlabelled points = record { values = replicate points (pos 0); trail = []; start = 0; queue = [] }

-- the point and the value that a lowering gave, by its number; 0 stands for the point where all began
abbrev pub point_of : List Lowering → ℕ → ℕ → ℕ
point_of trail source zero = source
point_of trail source (suc place) = (entry_at trail place).literal.x

abbrev pub level_of : List Lowering → ℤ → ℕ → ℤ
level_of trail base zero = base
level_of trail base (suc place) = (entry_at trail place).now

-- the lowering at a place comes of an earlier one, or of the point where all began
pub record IsTraced (literals : List Literal) (source : ℕ) (base : ℤ) (start : ℕ) (trail : List Lowering)
    (place : ℕ) : Type 0 where
  pub given : Contains literals (entry_at trail place).literal
  pub y_is : (entry_at trail place).literal.y ≡ point_of trail source (entry_at trail place).parent
  pub now_is : (entry_at trail place).now
      ≡ level_of trail base (entry_at trail place).parent +ℤ (entry_at trail place).literal.c
  pub low : 0 < (entry_at trail place).parent → start < (entry_at trail place).parent
  pub high : (entry_at trail place).parent ≤ place
