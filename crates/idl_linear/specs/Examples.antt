-- Small terms: x is time point 1 and y is time point 2.
use Rattle.std.specs.Prelude.{ℕ, [], ◌∷◌, ℤ, pos}
use Rattle.idl_linear.specs.declared.summand.Summand.{Summand}
use Rattle.idl_linear.specs.declared.difference.Difference.{Difference}
use Rattle.idl_linear.specs.Linear.{LinearValue, point_alone, number_alone, sum_of}

abbrev pub x : LinearValue
x = point_alone 1

abbrev pub y : LinearValue
y = point_alone 2

abbrev pub number : ℕ → LinearValue
number n = number_alone (pos n)

abbrev pub summand : ℕ → ℤ → Summand
summand point coefficient = record { point = point; coefficient = coefficient }

abbrev pub plus : LinearValue → LinearValue → LinearValue
plus a b = sum_of (a ∷ b ∷ [])

-- so many x, without summing them up
abbrev pub many : ℤ → LinearValue
many n = record { summands = summand 1 n ∷ []; constant = pos 0 }

abbrev pub difference : ℕ → ℕ → ℤ → Difference
difference p q n = record { x = p; y = q; n = n }
