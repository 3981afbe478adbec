-- Of the code and not of the meaning: literals that are found by their second points.
use Rattle.std.specs.Prelude.{◌≡◌, ◌≢◌, ℕ, ◌<◌, ◌≤◌, ◌-◌, List, length, slice_index_or}
use Rattle.stn_core.specs.declared.literal.Literal.{Literal}
use Rattle.stn_core.specs.Literal.{literal_at}

-- a count of points, and literals whose second points are among them
pub record Graph : Type 0 where
  pub points : ℕ
  pub literals : List Literal

-- of the literals before a place, the last whose second point is this one has the number, counted from 1; 0 is none
pub record IsNewest (literals : List Literal) (point place number : ℕ) : Type 0 where
  pub before : number ≤ place
  pub here : 0 < number → (literal_at literals (number - 1)).y ≡ point
  pub last : (k : ℕ) → number ≤ k → k < place → (literal_at literals k).y ≢ point

-- the number at a place of a list, and 0 past its end
abbrev pub number_at : List ℕ → ℕ → ℕ
number_at numbers place = slice_index_or numbers place 0

pub record IsLinked (literals : List Literal) (heads nexts : List ℕ) : Type 0 where
  pub count : length nexts ≡ length literals
  pub y_in : (k : ℕ) → k < length literals → (literal_at literals k).y < length heads
  pub newest : (point : ℕ) → point < length heads
      → IsNewest literals point (length literals) (number_at heads point)
  pub next : (k : ℕ) → k < length literals → IsNewest literals (literal_at literals k).y k (number_at nexts k)
