-- Of the code and not of the meaning: what a question to a search that is kept comes to.
use Rattle.std.specs.Prelude.{◌≡◌, ℕ, IfSome, IfOk, Result}
use Rattle.stn_core.specs.declared.problem.Problem.{Problem}
use Rattle.better_schedules.specs.declared.descent.Descent.{Descent}
use Rattle.better_schedules.specs.code.Descents.{IsQuestion}
use Rattle.book_core.specs.declared.verdict.Verdict.{Verdict}
use Rattle.book_core.specs.Verdicts.{IsRight}
use Rattle.kept_search.specs.Kept.{IsSearchOf}
use Rattle.best_bound.specs.declared.asking.Asked.{Asked}
use Rattle.best_bound.specs.declared.asking.Asked.TheVariants.{Heard, Open}
use Rattle.best_bound.specs.declared.asking.Turn.{Turn}
use Rattle.best_bound.specs.declared.asking.Begun.{Begun}
use Rattle.best_bound.specs.code.Hearings.{IsHeard}

-- an answer that was heard, or a question that is still open
abbrev pub IsAsked : Problem → ℕ → ℕ → Descent → Asked → Type 0
IsAsked problem x y old (Heard heard) = IsHeard problem x y old heard
IsAsked problem x y old (Open same question) = (same ≡ old) × IsQuestion problem x y old question

-- and the search, where there is one, is one of the problem
pub record IsTurn (problem : Problem) (x y : ℕ) (old : Descent) (turn : Turn) : Type 0 where
  pub asked : IsAsked problem x y old turn.asked
  pub search : IfSome turn.search (IsSearchOf problem)

pub record IsBegun (problem : Problem) (begun : Begun) : Type 0 where
  pub verdict : IfSome begun.verdict (IsRight problem)
  pub search : IfSome begun.search (IsSearchOf problem)

-- what is given of a problem, where it is a verdict, is the right one
abbrev pub IsDecider : {E : Type 0} → (Problem → Result Verdict E → Type 0) → Type 0
IsDecider {E} Gives = (asked : Problem) (result : Result Verdict E) → Gives asked result → IfOk result (IsRight asked)
