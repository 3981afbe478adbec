-- Of the code and not of the meaning: parts of an instance that are read.
use Rattle.std.specs.Prelude.{◌≡◌, ℕ, ◌<◌, ◌≤◌, false, List, drop, Result, Err}
use Rattle.job_shop.specs.declared.fault.JobRefusal.{JobRefusal}
use Rattle.job_shop.specs.declared.fault.JobError.{JobError}
use Rattle.job_shop.specs.declared.fault.JobError.TheVariants.{Refused, OutOfMemory}
use Rattle.job_shop.specs.declared.shop.Operation.{Operation}
use Rattle.job_shop.specs.Shops.{has_machine}
use Rattle.job_shop.specs.Words.{words}
use Rattle.job_shop.specs.Instances.{Rest}

-- what is left of the bytes from a place on, where the next word has this number
abbrev pub rest_of : List ℕ → ℕ → ℕ → Rest
rest_of bytes place number = record { left = words (drop place bytes); number = number }

-- an operation that may come behind these
pub record IsOperation (machines : ℕ) (before : List Operation) (o : Operation) : Type 0 where
  pub machine : o.machine < machines
  pub short : o.duration ≤ 1000000
  pub new : has_machine o.machine before ≡ false

-- what an error says of a job
abbrev pub ExplainsJob : Result (List Operation × Rest) JobRefusal → JobError → Type 0
ExplainsJob found (Refused why) = found ≡ Err why
ExplainsJob found OutOfMemory = Unit {0}
