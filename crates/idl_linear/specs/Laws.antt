-- The laws of the definitions, each said once: its function ensures it, and who stands on it names it.
use Rattle.std.specs.Prelude.{◌≡◌, ◌<◌, ℕ, List, ℤ, pos, neg_ℤ, ◌-ℤ◌, slice_index_or, true, Ok}
use Rattle.std.specs.List.{AllByRecursion}
use Rattle.idl_linear.specs.declared.difference.Difference.{Difference}
use Rattle.idl_linear.specs.declared.summand.Summand.{Summand}
use Rattle.idl_linear.specs.Limits.{number_limit}
use Rattle.idl_linear.specs.Linear.{LinearValue, sum_of, less_others, negative_of, number_alone, point_alone, is_within}
use Rattle.idl_linear.specs.Differences.{difference_of}
use Rattle.idl_linear.specs.Values.{linear_value, sum_of_values, subtracted}

abbrev pub SumValue : Type 0
SumValue =
    (values : List ℤ) (ls : List LinearValue) → linear_value values (sum_of ls) ≡ sum_of_values values ls

abbrev pub LessValue : Type 0
LessValue =
    (values : List ℤ) (ls : List LinearValue) → linear_value values (less_others ls) ≡ subtracted values ls

abbrev pub DifferenceValue : Type 0
DifferenceValue =
    (values : List ℤ) (a b : LinearValue) (d : Difference) → slice_index_or values 0 (pos 0) ≡ pos 0
    → difference_of a b ≡ Ok d
    → (linear_value values a -ℤ linear_value values b) ≡ ((slice_index_or values d.x (pos 0) -ℤ slice_index_or values d.y (pos 0)) -ℤ d.n)

abbrev pub NegativeValue : Type 0
NegativeValue =
    (values : List ℤ) (l : LinearValue) → linear_value values (negative_of l) ≡ neg_ℤ (linear_value values l)

abbrev pub NumberValue : Type 0
NumberValue =
    (values : List ℤ) (n : ℤ) → linear_value values (number_alone n) ≡ n

abbrev pub PointValue : Type 0
PointValue =
    (values : List ℤ) (point : ℕ)
    → linear_value values (point_alone point) ≡ slice_index_or values point (pos 0)

abbrev pub NumberIsWithin : Type 0
NumberIsWithin =
    (a b : LinearValue) (d : Difference) → difference_of a b ≡ Ok d → is_within number_limit d.n ≡ true

abbrev pub PointsAreTheirs : Type 0
PointsAreTheirs =
    (limit : ℕ) (a b : LinearValue) (d : Difference) → 0 < limit
    → AllByRecursion (λ (s : Summand). s.point < limit) a.summands
    → AllByRecursion (λ (s : Summand). s.point < limit) b.summands → difference_of a b ≡ Ok d
    → (d.x < limit) × (d.y < limit)
