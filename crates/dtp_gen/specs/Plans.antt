-- Jobs and their operations. A job's operation k is the one that comes after k others; both are counted from 0.
use Rattle.std.specs.Prelude.{◌≡◌, ℕ, ◌+◌, ◌-◌, ◌*◌, ◌%◌, ◌<◌}
use Rattle.dtp_gen.specs.Draws.{draw}

pub record Plan : Type 0 where
  pub jobs : ℕ
  pub machines : ℕ
  pub start : ℕ
  pub deadline : ℕ

-- a job takes a draw for its first machine, and then one for each duration
abbrev pub job_draw : Plan → ℕ → ℕ → ℕ
job_draw p job place = draw p.start (job * (p.machines + 1) + place)

abbrev pub first_machine : Plan → ℕ → ℕ
first_machine p job = job_draw p job 0 % p.machines

abbrev pub duration : Plan → ℕ → ℕ → ℕ
duration p job k = 1 + job_draw p job (k + 1) % 99

-- on which machine the job's operation k runs
abbrev pub machine_of : Plan → ℕ → ℕ → ℕ
machine_of p job k = (first_machine p job + k) % p.machines

-- which of the job's operations runs on the machine
abbrev pub operation_on : Plan → ℕ → ℕ → ℕ
operation_on p machine job = (machine + (p.machines - first_machine p job)) % p.machines

-- each machine has an operation of each job
abbrev pub MachineLaw : Type 0
MachineLaw =
    (p : Plan) (job machine : ℕ) → machine < p.machines
    → (operation_on p machine job < p.machines) × (machine_of p job (operation_on p machine job) ≡ machine)
