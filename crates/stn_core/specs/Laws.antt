-- The laws of literals, cycles and greatest schedules.
use Rattle.std.specs.Prelude.{◌≡◌, ◌≤◌, ◌⊎◌, ◌↔◌, ℕ, ℤ, List, All}
use Rattle.stn_core.specs.declared.literal.Literal.{Literal}
use Rattle.stn_core.specs.Cycle.{IsNegativeCycle}
use Rattle.stn_core.specs.Limits.{points_limit}
use Rattle.stn_core.specs.Literal.{Holds, IsOver, negation_of}
use Rattle.stn_core.specs.Schedule.{IsGreatestSchedule, IsInRange}

-- a literal's negation holds exactly where the literal does not
abbrev pub NegationLaw : Type 0
NegationLaw = (values : List ℤ) (l : Literal) → Holds values (negation_of l) ↔ (¬ Holds values l)

-- one of the two always does
abbrev pub EitherLaw : Type 0
EitherLaw = (values : List ℤ) (l : Literal) → Holds values l ⊎ Holds values (negation_of l)

-- the negation of a literal that is within the limits is within them too
abbrev pub NegationKept : Type 0
NegationKept = (points : ℕ) (l : Literal) → IsOver points l → IsOver points (negation_of l)

-- on no values do all the literals of a negative cycle hold
abbrev pub CycleLaw : Type 0
CycleLaw = (cycle : List Literal) (values : List ℤ) → IsNegativeCycle cycle → All (Holds values) cycle → ⊥

-- literals have at most one greatest schedule
abbrev pub OneGreatestLaw : Type 0
OneGreatestLaw =
    (points : ℕ) (literals : List Literal) (u v : List ℤ)
    → IsGreatestSchedule points literals u → IsGreatestSchedule points literals v → u ≡ v

-- every value of a greatest schedule is in range
abbrev pub GreatestRangeLaw : Type 0
GreatestRangeLaw =
    (points : ℕ) (literals : List Literal) (values : List ℤ)
    → points ≤ points_limit → All (IsOver points) literals
    → IsGreatestSchedule points literals values → All IsInRange values
