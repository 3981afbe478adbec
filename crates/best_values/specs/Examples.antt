-- Worked examples: point 0 is zero, point 1 is x, point 2 is y, and the objective is x - y.
use Rattle.std.specs.Prelude.{◌≡◌, ℕ, List, [], ◌∷◌, ℤ, pos, negsuc}
use Rattle.stn_core.specs.declared.literal.Literal.{Literal}
use Rattle.stn_core.specs.declared.problem.Problem.{Problem}
use Rattle.best_values.specs.Bests.{IsBestValue, IsFreeSet, ClauseIsKept}

abbrev pub literal : ℕ → ℕ → ℤ → Literal
literal x y c = record { x = x; y = y; c = c }

-- 0 <= x <= 9; y - x >= 4 or x - y >= 2; 0 <= y <= 5
abbrev pub two_orders : List (List Literal)
two_orders =
    (literal 0 1 (pos 0) ∷ [])
    ∷ (literal 1 0 (pos 9) ∷ [])
    ∷ (literal 1 2 (negsuc 3) ∷ literal 2 1 (negsuc 1) ∷ [])
    ∷ (literal 0 2 (pos 0) ∷ [])
    ∷ (literal 2 0 (pos 5) ∷ [])
    ∷ []

-- the least of x - y is -5, with x at 0 and y at 5
abbrev pub BestExample : Type 0
BestExample =
    (problem : Problem) → problem.points ≡ 3 → problem.clauses ≡ two_orders → IsBestValue problem 1 2 (negsuc 4)

-- without a clause x can be lowered alone
abbrev pub FreeSetExample : Type 0
FreeSetExample =
    (problem : Problem) → problem.points ≡ 3 → problem.clauses ≡ []
    → IsFreeSet problem 1 2 (pos 0 ∷ pos 0 ∷ pos 0 ∷ []) (1 ∷ [])

-- with x >= y it can't
abbrev pub NotKeptExample : Type 0
NotKeptExample = ¬ ClauseIsKept (pos 0 ∷ pos 0 ∷ pos 0 ∷ []) (1 ∷ []) (literal 2 1 (pos 0) ∷ [])
