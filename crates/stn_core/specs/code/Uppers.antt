-- Of the code and not of the meaning: values that no schedule exceeds. Contracts of private functions alone cite it.
use Rattle.std.specs.Prelude.{◌≡◌, ℕ, ◌<◌, List, length, ℤ, pos, neg_ℤ, ◌≤ℤ◌}
use Rattle.stn_core.specs.declared.literal.Literal.{Literal}
use Rattle.stn_core.specs.Limits.{value_limit}
use Rattle.stn_core.specs.Literal.{value_at}
use Rattle.stn_core.specs.Schedule.{IsSchedule}

pub record IsUpper (points : ℕ) (literals : List Literal) (values : List ℤ) : Type 0 where
  pub count : length values ≡ points
  pub low : (p : ℕ) → neg_ℤ (pos value_limit) ≤ℤ value_at values p
  pub high : (p : ℕ) → value_at values p ≤ℤ pos 0
  pub bounds : (others : List ℤ) → IsSchedule points literals others
      → (p : ℕ) → p < points → value_at others p ≤ℤ value_at values p
