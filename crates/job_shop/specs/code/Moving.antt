-- Of the code and not of the meaning: a plan whose operations are moved to earlier starts.
use Rattle.std.specs.Prelude.{◌≡◌, ℕ, ◌+◌, ◌*◌, ◌^◌, ◌<◌, ◌⊎◌, ◌<ℤ◌, Bool, true, false, List, [], ◌∷◌, length, ℤ, pos, negsuc, ◌≤ℤ◌}
use Rattle.job_shop.specs.Shops.{Shop, Has}
use Rattle.job_shop.specs.Feasible.{IsFeasible, EndsBy, end}
use Rattle.job_shop.specs.Plans.{start_in}
use Rattle.job_shop.specs.Tight.{IsBefore, IsReached, IsTight, StartsNoLater}

pub record Timely : Type 0 where
  pub shop : Shop
  pub starts : List ℤ
  -- by then every operation has ended
  pub latest : ℤ

abbrev pub start_of : Timely → ℕ → ℕ → ℤ
start_of p = start_in p.shop p.starts

pub record IsTimely (p : Timely) : Type 0 where
  pub many : length p.starts ≡ length p.shop.jobs * p.shop.machines
  pub feasible : IsFeasible p.shop (start_of p)
  pub ends : EndsBy p.shop (start_of p) p.latest
  pub near : p.latest <ℤ pos (2 ^ 127)

-- the earliest start of an operation behind those that go before it now
pub record IsEarliest (p : Timely) (j k : ℕ) (time : ℤ) : Type 0 where
  pub low : pos 0 ≤ℤ time
  pub order : (i : ℕ) → k ≡ i + 1 → end p.shop (start_of p) j i ≤ℤ time
  pub machine : (a i : ℕ) → Has p.shop a i → IsBefore p.shop (start_of p) a i j k → end p.shop (start_of p) a i ≤ℤ time
  pub high : time ≤ℤ start_of p j k
  pub reached : IsReached p.shop (start_of p) j k time

-- the time, or the end of this operation, which goes before
abbrev pub IsEndOrTime : Timely → ℕ → ℕ → ℕ → ℕ → ℤ → ℤ → Type 0
IsEndOrTime p j k a i time found =
    (found ≡ time) ⊎ (IsBefore p.shop (start_of p) a i j k × (end p.shop (start_of p) a i ≡ found))

-- the time, or the end of such an operation of this job
abbrev pub IsLastOrTime : Timely → ℕ → ℕ → ℕ → ℤ → ℤ → Type 0
IsLastOrTime p j k a time found =
    (found ≡ time) ⊎ ((i : ℕ) × (i < p.shop.machines) × IsBefore p.shop (start_of p) a i j k × (end p.shop (start_of p) a i ≡ found))

abbrev pub whole_part : ℤ → ℕ
whole_part (pos n) = n
whole_part (negsuc n) = 0

-- the sum of the starts
abbrev pub total : List ℤ → ℕ
total [] = 0
total (z ∷ zs) = whole_part z + total zs

-- the same operations, none of which starts later
pub record IsMoved (old new : Timely) : Type 0 where
  pub shop : new.shop ≡ old.shop
  pub latest : new.latest ≡ old.latest
  pub sooner : StartsNoLater old.shop (start_of new) (start_of old)

-- something was moved, or all is as it was, and this is so
abbrev pub MovesOr : Type 0 → Timely → Timely → Bool → Type 0
MovesOr P old new true = total new.starts < total old.starts
MovesOr P old new false = (new.starts ≡ old.starts) × P
