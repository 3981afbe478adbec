-- Plans of a job shop (Lawler, Lenstra, Rinnooy Kan and Shmoys 1993): a start for each operation.
use Rattle.std.specs.Prelude.{◌≡◌, ◌≢◌, ℕ, ◌+◌, ◌⊎◌, ℤ, pos, ◌+ℤ◌, ◌≤ℤ◌}
use Rattle.job_shop.specs.Shops.{Shop, Has, machine_of, duration}

-- when an operation ends
abbrev pub end : Shop → (ℕ → ℕ → ℤ) → ℕ → ℕ → ℤ
end s start j k = start j k +ℤ pos (duration s j k)

-- one ends no later than the other starts
abbrev pub Precedes : Shop → (ℕ → ℕ → ℤ) → ℕ → ℕ → ℕ → ℕ → Type 0
Precedes s start a i b j = end s start a i ≤ℤ start b j

-- a start of at least 0 for each operation, in the order of each job, and one operation at a time on each machine
pub record IsFeasible (s : Shop) (start : ℕ → ℕ → ℤ) : Type 0 where
  pub begins : (j k : ℕ) → Has s j k → pos 0 ≤ℤ start j k
  -- each operation of a job starts no earlier than the one before ends
  pub order : (j k : ℕ) → Has s j (k + 1) → Precedes s start j k j (k + 1)
  -- of two operations on one machine one ends no later than the other starts
  pub apart : (a i b j : ℕ) → Has s a i → Has s b j → ((a ≢ b) ⊎ (i ≢ j)) → machine_of s a i ≡ machine_of s b j
      → Precedes s start a i b j ⊎ Precedes s start b j a i

-- the latest end
pub record IsMakespan (s : Shop) (start : ℕ → ℕ → ℤ) (m : ℤ) : Type 0 where
  pub latest : (j k : ℕ) → Has s j k → end s start j k ≤ℤ m
  pub attained : (j : ℕ) × ((k : ℕ) × (Has s j k × (end s start j k ≡ m)))

-- every operation has ended by then
abbrev pub EndsBy : Shop → (ℕ → ℕ → ℤ) → ℤ → Type 0
EndsBy s start m = (j k : ℕ) → Has s j k → end s start j k ≤ℤ m
