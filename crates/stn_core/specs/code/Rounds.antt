-- Of the code and not of the meaning: what holds of the labels in the rounds of `greatest`. Contracts of private
-- functions alone cite it.
use Rattle.std.specs.Prelude.{◌≡◌, ℕ, ◌<◌, ◌≤◌, ◌+◌, ◌*◌, List, Option, None, Some, length, take, All, Contains, slice_index_or, ℤ, pos, ◌+ℤ◌, ◌≤ℤ◌, ◌<ℤ◌}
use Rattle.stn_core.specs.Limits.{bound_limit}
use Rattle.stn_core.specs.declared.literal.Literal.{Literal}
use Rattle.stn_core.specs.declared.label.Label.{Label}
use Rattle.stn_core.specs.Literal.{value_at}
use Rattle.stn_core.specs.Cycle.{IsNegativeCycle}
use Rattle.stn_core.specs.Schedule.{IsSchedule}

-- a point that no round has lowered
abbrev pub initial_label : Label
initial_label = record { value = pos 0; last = pos 0; round = 0; by = record { x = 0; y = 0; c = pos 0 } }

abbrev pub begun : Label → Label
begun s = record s { last = s.value }

abbrev pub label_value : Label → ℤ
label_value s = s.value

abbrev pub label_at : List Label → ℕ → Label
label_at labels p = slice_index_or labels p initial_label

abbrev pub value_of : List Label → ℕ → ℤ
value_of labels p = (label_at labels p).value

abbrev pub last_of : List Label → ℕ → ℤ
last_of labels p = (label_at labels p).last

abbrev pub round_of : List Label → ℕ → ℕ
round_of labels p = (label_at labels p).round

abbrev pub by_of : List Label → ℕ → Literal
by_of labels p = (label_at labels p).by

-- the literal lowered its first point: it is tight only where its second point was lowered in an earlier round,
-- and that was the round before or a later one
pub record IsFallen (points : ℕ) (labels : List Label) (p : ℕ) (l : Literal) : Type 0 where
  pub x_is : l.x ≡ p
  pub y_in : l.y < points
  pub falls : (value_of labels l.y +ℤ l.c) ≤ℤ value_of labels p
  pub tight : value_of labels p ≤ℤ (value_of labels l.y +ℤ l.c) → round_of labels l.y < round_of labels p
  pub near : round_of labels p ≤ round_of labels l.y + 1

-- what is known of a point in a round
pub record IsTraced (points : ℕ) (literals : List Literal) (labels : List Label) (round p : ℕ) : Type 0 where
  pub past : round_of labels p ≤ round
  pub at_most_0 : value_of labels p ≤ℤ pos 0
  pub low : pos 0 ≤ℤ (value_of labels p +ℤ pos (round_of labels p * (bound_limit + 1)))
  pub last_low : pos (bound_limit + 1) ≤ℤ (last_of labels p +ℤ pos (round * (bound_limit + 1)))
  pub last_at_most_0 : last_of labels p ≤ℤ pos 0
  pub kept : round_of labels p < round → value_of labels p ≡ last_of labels p
  pub lowered : round ≤ round_of labels p → value_of labels p <ℤ last_of labels p
  pub given : 0 < round_of labels p → Contains literals (by_of labels p)
  pub fallen : 0 < round_of labels p → IsFallen points labels p (by_of labels p)

-- a literal that did not hold as the round began has a point that the round before lowered
abbrev pub IsWaiting : List Label → ℕ → Literal → Type 0
IsWaiting labels round l = (last_of labels l.y +ℤ l.c) <ℤ last_of labels l.x → round ≤ round_of labels l.y + 1

-- the literal has been looked at in this round
abbrev pub IsDone : List Label → Literal → Type 0
IsDone labels l = value_of labels l.x ≤ℤ (last_of labels l.y +ℤ l.c)

-- no schedule has a greater value at the point
abbrev pub IsAbove : ℕ → List Literal → List Label → ℕ → Type 0
IsAbove points literals labels p =
    (values : List ℤ) → IsSchedule points literals values → value_at values p ≤ℤ value_of labels p

-- the round has looked at the first literals, up to a place
pub record IsRound (points : ℕ) (literals : List Literal) (labels : List Label) (round place : ℕ) : Type 0 where
  pub count : length labels ≡ points
  pub traced : (p : ℕ) → p < points → IsTraced points literals labels round p
  pub above : (p : ℕ) → p < points → IsAbove points literals labels p
  pub waiting : All (IsWaiting labels round) literals
  pub done : All (IsDone labels) (take place literals)

-- no point was lowered in the round
abbrev pub NoneLowered : ℕ → List Label → ℕ → Type 0
NoneLowered points labels round = (p : ℕ) → p < points → round_of labels p < round

-- the round lowered the point
pub record IsLoweredIn (points : ℕ) (labels : List Label) (round p : ℕ) : Type 0 where
  pub p_in : p < points
  pub round_is : round_of labels p ≡ round

-- a point that the round lowered, or that it lowered none
abbrev pub TellsLowered : ℕ → List Label → ℕ → Option ℕ → Type 0
TellsLowered points labels round None = NoneLowered points labels round
TellsLowered points labels round (Some p) = IsLoweredIn points labels round p

-- each point that was lowered has a literal that tells how
abbrev pub AreFallen : List Label → Type 0
AreFallen labels =
    (p : ℕ) → p < length labels → 0 < round_of labels p → IsFallen (length labels) labels p (by_of labels p)

-- the literal is the one that lowered its first point last
pub record IsLatest (labels : List Label) (l : Literal) : Type 0 where
  pub x_in : l.x < length labels
  pub moved : 0 < round_of labels l.x
  pub by_is : by_of labels l.x ≡ l

-- a negative cycle of such literals
pub record IsCycleOf (labels : List Label) (cycle : List Literal) : Type 0 where
  pub negative : IsNegativeCycle cycle
  pub latest : All (IsLatest labels) cycle
