use Rattle.std.specs.Prelude.{◌≡◌, ℕ, ◌<◌, List, length, All, ℤ, pos, neg_ℤ, ◌≤ℤ◌, ◌<ℤ◌}
use Rattle.stn_core.specs.declared.literal.Literal.{Literal}
use Rattle.stn_core.specs.Limits.{value_limit}
use Rattle.stn_core.specs.Literal.{value_at, Holds}

-- values of at most 0, one for each time point, on which all the literals hold
pub record IsSchedule (points : ℕ) (literals : List Literal) (values : List ℤ) : Type 0 where
  pub count : length values ≡ points
  pub at_most_0 : (p : ℕ) → p < points → value_at values p ≤ℤ pos 0
  pub holds : All (Holds values) literals

-- a schedule whose values are pointwise no less than those of any other: the latest times, where 0 is the latest of all
-- (Dechter, Meiri, Pearl 1991, section 3)
pub record IsGreatestSchedule (points : ℕ) (literals : List Literal) (values : List ℤ) : Type 0 where
  pub schedule : IsSchedule points literals values
  pub greatest : (others : List ℤ) → IsSchedule points literals others
      → (p : ℕ) → p < points → value_at others p ≤ℤ value_at values p

-- the values that a greatest schedule can have
pub record IsInRange (value : ℤ) : Type 0 where
  pub low : neg_ℤ (pos value_limit) <ℤ value
  pub high : value ≤ℤ pos 0

-- no bound is below the negative of the width
abbrev pub AreNear : ℕ → List Literal → Type 0
AreNear width literals = All (λ (l : Literal). neg_ℤ (pos width) ≤ℤ l.c) literals
