-- The laws of greatest schedules near 0.
use Rattle.std.specs.Prelude.{ℕ, ◌<◌, ◌*◌, List, All, Contains, ℤ, pos, neg_ℤ, ◌≤ℤ◌}
use Rattle.stn_core.specs.declared.literal.Literal.{Literal}
use Rattle.stn_core.specs.Literal.{value_at, IsOver}
use Rattle.stn_core.specs.Schedule.{IsGreatestSchedule, AreNear}
use Rattle.best_values.specs.Widths.{width_of}

-- no value of a greatest schedule is below 0 by more than the widest bound for each point
abbrev pub NearLaw : Type 0
NearLaw =
    (points width : ℕ) (literals : List Literal) (values : List ℤ)
    → AreNear width literals → All (IsOver points) literals → IsGreatestSchedule points literals values
    → (p : ℕ) → p < points → neg_ℤ (pos (points * width)) ≤ℤ value_at values p

-- the bounds of a problem are as wide as its width at most
abbrev pub WidthLaw : Type 0
WidthLaw =
    (clauses : List (List Literal)) (clause : List Literal) (l : Literal)
    → Contains clauses clause → Contains clause l
    → (neg_ℤ (pos (width_of clauses)) ≤ℤ l.c) × (l.c ≤ℤ pos (width_of clauses))
