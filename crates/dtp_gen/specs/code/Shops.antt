-- Of the code and not of the meaning: a plan with its draws.
use Rattle.std.specs.Prelude.{ℕ, ◌+◌, ◌*◌, ◌≤◌, List}
use Rattle.dtp_gen.specs.Draws.{AreDraws}

pub record IsShop (jobs machines start : ℕ) (draws : List ℕ) : Type 0 where
  pub jobs_few : jobs ≤ 40
  pub some : 1 ≤ machines
  pub machines_few : machines ≤ 40
  pub drawn : AreDraws start (jobs * (machines + 1)) draws
