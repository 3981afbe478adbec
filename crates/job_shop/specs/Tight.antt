-- Plans in which no operation can start earlier while those before it stay where they are (semi-active plans: Baker 1974;
-- French 1982).
use Rattle.std.specs.Prelude.{◌≡◌, ℕ, ◌+◌, ◌⊎◌, ℤ, pos, ◌≤ℤ◌}
use Rattle.job_shop.specs.Shops.{Shop, Has, machine_of}
use Rattle.job_shop.specs.Feasible.{end, Precedes}

-- an operation goes before another one on their machine, and not the other way round, as two of no duration may
pub record IsBefore (s : Shop) (start : ℕ → ℕ → ℤ) (a i j k : ℕ) : Type 0 where
  pub machine : machine_of s a i ≡ machine_of s j k
  pub before : Precedes s start a i j k
  pub not_behind : ¬ Precedes s start j k a i

-- the time is 0, or that at which the job's operation before this one ends, or one that goes before it on its machine
abbrev pub IsReached : Shop → (ℕ → ℕ → ℤ) → ℕ → ℕ → ℤ → Type 0
IsReached s start j k time =
    (time ≡ pos 0)
    ⊎ (((i : ℕ) × (k ≡ i + 1) × (end s start j i ≡ time))
    ⊎ ((a : ℕ) × (i : ℕ) × Has s a i × IsBefore s start a i j k × (end s start a i ≡ time)))

-- each operation starts at such a time
abbrev pub IsTight : Shop → (ℕ → ℕ → ℤ) → Type 0
IsTight s start = (j k : ℕ) → Has s j k → IsReached s start j k (start j k)

-- no operation starts later than in the other plan
abbrev pub StartsNoLater : Shop → (ℕ → ℕ → ℤ) → (ℕ → ℕ → ℤ) → Type 0
StartsNoLater s start other = (j k : ℕ) → Has s j k → start j k ≤ℤ other j k
