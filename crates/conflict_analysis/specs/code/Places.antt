-- Which of the trail's places a way back has passed, and which it has still to pass.
use Rattle.std.specs.Prelude.{◌≡◌, ◌≢◌, ℕ, ◌<◌, ◌≤◌, List, length, Contains, slice_index}
use Rattle.conflict_analysis.specs.declared.entry.Role.{Role}
use Rattle.conflict_analysis.specs.code.Trails.{role_at, IsUsed}

-- all places that were there, and one more
pub record HasMore (old : List ℕ) (place : ℕ) (new : List ℕ) : Type 0 where
  pub here : Contains new place
  pub others : (j : ℕ) → Contains old j → Contains new j

-- of the places below this one k is the greatest, and all others stay
pub record IsGreatestBelow (old new : List ℕ) (below k : ℕ) : Type 0 where
  pub within : k < below
  pub others : (j : ℕ) → Contains old j → j < below → j ≢ k → (j < k) × Contains new j

-- each used place below this one waits to be passed
abbrev pub AreWaiting : ℕ → List Role → List ℕ → Type 0
AreWaiting low roles waiting = (j : ℕ) → j < low → IsUsed (role_at roles j) → Contains waiting j

-- what waited still waits, and so does what is used since then
abbrev pub KeepsWaiting : List Role → List ℕ → List Role → List ℕ → Type 0
KeepsWaiting old before new after = (low : ℕ) → AreWaiting low old before → AreWaiting low new after

-- the used places from this one on, the last of them first; all are below the count
pub record ArePassed (low count : ℕ) (roles : List Role) (passed : List ℕ) : Type 0 where
  pub from : (i : ℕ) → i < length passed → low ≤ slice_index passed i
  pub within : (i : ℕ) → i < length passed → slice_index passed i < count
  pub falling : (i j : ℕ) → i < j → j < length passed → slice_index passed j < slice_index passed i
  pub all : (j : ℕ) → low ≤ j → IsUsed (role_at roles j) → (i : ℕ) × (i < length passed)
      × (slice_index passed i ≡ j)
