-- Plans as lists: a start for each operation, job after job; and least ones (the problem J || Cmax: Lawler, Lenstra, Rinnooy Kan
-- and Shmoys 1993).
use Rattle.std.specs.Prelude.{◌≡◌, ℕ, ◌+◌, ◌*◌, List, length, slice_index_or, ℤ, pos, ◌≤ℤ◌}
use Rattle.job_shop.specs.Shops.{Shop}
use Rattle.job_shop.specs.Feasible.{IsFeasible, IsMakespan}

-- the start of an operation
abbrev pub start_in : Shop → List ℤ → ℕ → ℕ → ℤ
start_in s starts j k = slice_index_or starts (j * s.machines + k) (pos 0)

-- a feasible plan with this makespan
pub record IsPlan (s : Shop) (starts : List ℤ) (m : ℤ) : Type 0 where
  pub many : length starts ≡ length s.jobs * s.machines
  pub feasible : IsFeasible s (start_in s starts)
  pub makespan : IsMakespan s (start_in s starts) m

-- and no feasible plan has a smaller one
pub record IsLeastPlan (s : Shop) (starts : List ℤ) (m : ℤ) : Type 0 where
  pub plan : IsPlan s starts m
  pub least : (others : List ℤ) (n : ℤ) → IsPlan s others n → m ≤ℤ n
