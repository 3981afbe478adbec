-- Of the code and not of the meaning: what the answer to a question comes to.
use Rattle.std.specs.Prelude.{ℕ}
use Rattle.stn_core.specs.declared.problem.Problem.{Problem}
use Rattle.better_schedules.specs.declared.descent.Descent.{Descent}
use Rattle.better_schedules.specs.code.Descents.{LeadsOn}
use Rattle.best_bound.specs.declared.hearing.Heard.{Heard}
use Rattle.best_bound.specs.declared.hearing.Heard.TheVariants.{Ended, GoesOn}
use Rattle.best_bound.specs.Answers.{IsBestAnswer}

-- the answer is right, or less is left to ask for
abbrev pub IsHeard : Problem → ℕ → ℕ → Descent → Heard → Type 0
IsHeard problem x y old (Ended best) = IsBestAnswer problem x y best
IsHeard problem x y old (GoesOn new) = LeadsOn problem x y old new
