-- Job shops (Fisher and Thompson 1963; Lawler, Lenstra, Rinnooy Kan and Shmoys 1993): jobs, each a row of operations,
-- one on each machine. Jobs, machines and the operations of a job are counted from 0. The limits are this project's own.
use Rattle.std.specs.Prelude.{◌≡◌, ◌≢◌, ℕ, ◌<◌, ◌≤◌, Bool, ◌==◌, List, [], length, slice_index_or}
use Rattle.std.specs.List.{list_any}
use Rattle.job_shop.specs.declared.shop.Operation.{Operation}

pub record Shop : Type 0 where
  pub machines : ℕ
  pub jobs : List (List Operation)

-- ---- operations

-- operation k of a job
abbrev pub operation_in : List Operation → ℕ → Operation
operation_in job k = slice_index_or job k (record { machine = 0; duration = 0 })

abbrev pub operation_at : Shop → ℕ → ℕ → Operation
operation_at s j k = operation_in (slice_index_or s.jobs j []) k

abbrev pub machine_of : Shop → ℕ → ℕ → ℕ
machine_of s j k = (operation_at s j k).machine

abbrev pub duration : Shop → ℕ → ℕ → ℕ
duration s j k = (operation_at s j k).duration

-- there is such an operation
abbrev pub Has : Shop → ℕ → ℕ → Type 0
Has s j k = (j < length s.jobs) × (k < s.machines)

-- an operation of the job has this machine
abbrev pub has_machine : ℕ → List Operation → Bool
has_machine machine job = list_any (λ (o : Operation). o.machine == machine) job

-- ---- within the limits

-- the first operations of a job
pub record IsRow (machines : ℕ) (job : List Operation) : Type 0 where
  pub machine : (k : ℕ) → k < length job → (operation_in job k).machine < machines
  pub short : (k : ℕ) → k < length job → (operation_in job k).duration ≤ 1000000
  -- no machine comes twice
  pub once : (k l : ℕ) → k < l → l < length job → (operation_in job k).machine ≢ (operation_in job l).machine

pub record IsJob (machines : ℕ) (job : List Operation) : Type 0 where
  pub many : length job ≡ machines
  pub row : IsRow machines job

pub record IsShop (s : Shop) : Type 0 where
  pub some_jobs : 1 ≤ length s.jobs
  pub few_jobs : length s.jobs ≤ 40
  pub some : 1 ≤ s.machines
  pub few : s.machines ≤ 40
  pub job : (j : ℕ) → j < length s.jobs → IsJob s.machines (slice_index_or s.jobs j [])
