-- This project's own limits.
use Rattle.std.specs.Prelude.{ℕ}

-- the greatest absolute value of a coefficient of an Int term: 2 to the 20
abbrev pub coefficient_limit : ℕ
coefficient_limit = 1048576

-- the greatest absolute value of a numeral, and of the constant of an Int term: 2 to the 62
abbrev pub constant_limit : ℕ
constant_limit = 4611686018427387904

-- the greatest absolute value of a comparison's number, before strictness: 2 to the 60
abbrev pub number_limit : ℕ
number_limit = 1152921504606846976

-- a linear term's time points are below this: the zero point and one for each name
abbrev pub points_limit : ℕ
points_limit = 65537
