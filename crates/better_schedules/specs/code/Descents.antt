-- Of the code and not of the meaning: from question to question.
use Rattle.std.specs.Prelude.{◌≡◌, ◌⊎◌, ℕ, suc, ◌+◌, ◌<◌, ℤ, pos, negsuc, neg_ℤ, ◌+ℤ◌, ◌-ℤ◌, ◌≤ℤ◌, ◌<ℤ◌}
use Rattle.stn_core.specs.declared.problem.Problem.{Problem}
use Rattle.best_values.specs.Questions.{Asks}
use Rattle.better_schedules.specs.declared.descent.Descent.{Descent}
use Rattle.better_schedules.specs.declared.descent.Question.{Question}
use Rattle.better_schedules.specs.Near.{span}
use Rattle.better_schedules.specs.code.Incumbents.{IsOpening}

-- one below the span, or higher
abbrev pub IsFloor : Problem → ℤ → Type 0
IsFloor problem low = neg_ℤ (span problem +ℤ pos 1) ≤ℤ low

-- the high value, or one between the two
abbrev pub IsMiddle : ℤ → ℤ → ℤ → Type 0
IsMiddle low high bound = (bound ≡ high) ⊎ ((low <ℤ bound) × (bound <ℤ high))

-- a schedule whose value is no greater than the span, and a bound below which nothing is asked for
pub record IsDescent (problem : Problem) (x y : ℕ) (d : Descent) : Type 0 where
  pub opening : IsOpening problem x y d.incumbent
  pub floor : IsFloor problem d.lower.value

-- the schedule's value is below the span
abbrev pub IsTooLow : Problem → Descent → Type 0
IsTooLow problem d = ¬ (neg_ℤ (span problem) ≤ℤ d.incumbent.value)

-- the schedule's value is not, and it is asked for one that is less than a bound up to it
pub record IsQuestion (problem : Problem) (x y : ℕ) (d : Descent) (q : Question) : Type 0 where
  pub near : neg_ℤ (span problem) ≤ℤ d.incumbent.value
  pub asks : Asks problem x y q.bound.value q.problem
  pub middle : IsMiddle d.lower.value d.incumbent.value q.bound.value

-- one more than a value, as a number, and 0 below 0
unfoldable pub rank : ℤ → ℕ
rank (pos n) = suc n
rank (negsuc n) = 0

-- what is left to ask for
abbrev pub left_to_ask : Problem → Descent → ℕ
left_to_ask problem d = rank (d.incumbent.value +ℤ span problem) + rank (d.incumbent.value -ℤ d.lower.value)

-- where it goes on less is left
pub record LeadsOn (problem : Problem) (x y : ℕ) (old new : Descent) : Type 0 where
  pub descent : IsDescent problem x y new
  pub less : left_to_ask problem new < left_to_ask problem old
