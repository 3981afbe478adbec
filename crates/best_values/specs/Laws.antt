-- The laws of best values.
use Rattle.std.specs.Prelude.{◌≡◌, ℕ, ◌<◌, List, length, ℤ, pos, ◌-ℤ◌, ◌<ℤ◌}
use Rattle.stn_core.specs.declared.problem.Problem.{Problem}
use Rattle.stn_core.specs.Problem.{ProblemHolds}
use Rattle.best_values.specs.Bests.{objective, IsModel, IsBestValue, IsFreeSet}
use Rattle.stn_core.specs.Solution.{IsSolution}
use Rattle.best_values.specs.Questions.{clauses_below, Asks}

-- a value that is attained, and below which the problem holds on no values, is best
abbrev pub BestLaw : Type 0
BestLaw =
    (problem : Problem) (x y : ℕ) (m : ℤ) (values : List ℤ)
    → IsModel problem values → objective x y values ≡ m
    → ((others : List ℤ) → ProblemHolds others (clauses_below problem x y m) → ⊥)
    → IsBestValue problem x y m

-- of a free set: on some values the problem holds and the objective is less by so much
abbrev pub KeptLaw : Type 0
KeptLaw =
    (problem : Problem) (x y : ℕ) (values : List ℤ) (set : List ℕ)
    → x < problem.points → y < problem.points → length values ≡ problem.points
    → IsFreeSet problem x y values set
    → (d : ℕ) → (others : List ℤ) × IsModel problem others × (objective x y others ≡ objective x y values -ℤ pos d)

-- where there is a free set no value is best
abbrev pub UnboundedLaw : Type 0
UnboundedLaw =
    (problem : Problem) (x y : ℕ) (values : List ℤ) (set : List ℕ)
    → x < problem.points → y < problem.points → length values ≡ problem.points
    → IsFreeSet problem x y values set
    → (m : ℤ) → IsBestValue problem x y m → ⊥

-- what solves the problem with the clause that the objective is below a value solves the problem, and the objective is
abbrev pub AskedLaw : Type 0
AskedLaw =
    (problem asked : Problem) (x y : ℕ) (m : ℤ) (values : List ℤ)
    → Asks problem x y m asked → IsSolution asked values
    → IsSolution problem values × (objective x y values <ℤ m)
