-- Linear terms over whole numbers (SMT-LIB 2.6, theory Ints): a sum of names' time points, each with its coefficient, and
-- a constant.
use Rattle.std.specs.Prelude.{ℕ, List, [], ◌∷◌, ◌++◌, map, Bool, ◌&&◌, ◌==◌, nat_lt, if◌then◌else◌, ℤ, pos, neg_ℤ, ◌+ℤ◌, int_le}
use Rattle.std.specs.List.{list_all}
use Rattle.std.specs.Ordering.{int_eq}
use Rattle.idl_linear.specs.declared.summand.Summand.{Summand}
use Rattle.idl_linear.specs.Limits.{coefficient_limit, constant_limit}

pub record LinearValue : Type 0 where
  -- by ascending time points, with coefficients other than 0
  pub summands : List Summand
  pub constant : ℤ

-- one more summand in a list by ascending time points; a coefficient of 0 is left out
abbrev pub put_before : Summand → List Summand → List Summand
put_before s rest = if int_eq s.coefficient (pos 0) then rest else s ∷ rest

abbrev pub with_summand : Summand → List Summand → List Summand
with_summand s [] = put_before s []
with_summand s (t ∷ ts) =
    if nat_lt s.point t.point then put_before s (t ∷ ts)
    else (if s.point == t.point then put_before (record { point = t.point; coefficient = s.coefficient +ℤ t.coefficient }) ts
    else t ∷ with_summand s ts)

-- summands in any order, collected
abbrev pub collected : List Summand → List Summand
collected [] = []
collected (s ∷ rest) = with_summand s (collected rest)

abbrev pub summands_of : List LinearValue → List Summand
summands_of [] = []
summands_of (l ∷ ls) = l.summands ++ summands_of ls

abbrev pub constants_of : List LinearValue → ℤ
constants_of [] = pos 0
constants_of (l ∷ ls) = l.constant +ℤ constants_of ls

-- the sum of linear terms
unfoldable pub sum_of : List LinearValue → LinearValue
sum_of ls = record { summands = collected (summands_of ls); constant = constants_of ls }

abbrev pub negative_summand : Summand → Summand
negative_summand s = record { point = s.point; coefficient = neg_ℤ s.coefficient }

abbrev pub negative_of : LinearValue → LinearValue
negative_of l = record { summands = map negative_summand l.summands; constant = neg_ℤ l.constant }

-- `-` of one term is its negative; of more the others are taken from the first
abbrev pub less_others : List LinearValue → LinearValue
less_others [] = record { summands = []; constant = pos 0 }
less_others (l ∷ []) = sum_of (negative_of l ∷ [])
less_others (l ∷ m ∷ ms) = sum_of (l ∷ map negative_of (m ∷ ms))

abbrev pub is_within : ℕ → ℤ → Bool
is_within limit n = int_le (neg_ℤ (pos limit)) n && int_le n (pos limit)

abbrev pub are_limited : List Summand → Bool
are_limited summands = list_all (λ (s : Summand). is_within coefficient_limit s.coefficient) summands

-- the coefficients and the constant of an Int term are within their limits
abbrev pub is_limited : LinearValue → Bool
is_limited l = are_limited l.summands && is_within constant_limit l.constant

-- a whole number, and a name's time point
abbrev pub number_alone : ℤ → LinearValue
number_alone n = record { summands = []; constant = n }

abbrev pub point_alone : ℕ → LinearValue
point_alone point = record { summands = record { point = point; coefficient = pos 1 } ∷ []; constant = pos 0 }
