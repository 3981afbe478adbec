-- The limits.
use Rattle.std.specs.Prelude.{ℕ, ℤ, FitsSigned}
use Rattle.std.specs.Int.{w128}

-- the greatest count of time points: 2 to the 21
abbrev pub points_limit : ℕ
points_limit = 2097152

-- the greatest bound of a literal, 2 to the 60; the least is one below its negative, so that negation keeps the limits
abbrev pub bound_limit : ℕ
bound_limit = 1152921504606846976

-- the values of a greatest schedule lie strictly above the negative of this, 2 to the 81
abbrev pub value_limit : ℕ
value_limit = 2417851639229258349412352

-- the greatest absolute value of a declared name of sort Int: 2 to the 90
abbrev pub named_value_limit : ℕ
named_value_limit = 1237940039285380274899124224

-- half the count of the numbers that a `Value` can be: 2 to the 127
abbrev pub value_span : ℕ
value_span = 170141183460469231731687303715884105728

-- the number is a `Value`
abbrev pub FitsValue : ℤ → Type 0
FitsValue n = FitsSigned w128 n

-- where a net's count of adds stands still: the greatest number of 64 bits
abbrev pub adds_limit : ℕ
adds_limit = 18446744073709551615
