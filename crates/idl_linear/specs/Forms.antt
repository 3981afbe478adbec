-- What holds of every linear term that the code makes.
use Rattle.std.specs.Prelude.{◌≡◌, ◌≢◌, ℕ, ◌<◌, ◌+◌, ◌*◌, List, [], ◌∷◌, ◌++◌, map, length, Bool, true, if◌then◌else◌, ℤ, pos, neg_ℤ, ◌+ℤ◌, ◌≤ℤ◌}
use Rattle.std.specs.List.{AllByRecursion}
use Rattle.idl_linear.specs.declared.summand.Summand.{Summand}
use Rattle.idl_linear.specs.Limits.{coefficient_limit, constant_limit, points_limit}
use Rattle.idl_linear.specs.Linear.{LinearValue, collected, summands_of, constants_of, negative_summand, is_limited, is_within}

-- time points ascend above this one, and coefficients aren't 0
abbrev pub AscendAbove : ℕ → List Summand → Type 0
AscendAbove least [] = Unit {0}
AscendAbove least (s ∷ rest) = (least < s.point) × (s.coefficient ≢ pos 0) × AscendAbove s.point rest

-- collected, over names' time points, and within the limits
pub record IsLinear (l : LinearValue) : Type 0 where
  pub ascends : AscendAbove 0 l.summands
  pub over : AllByRecursion (λ (s : Summand). s.point < points_limit) l.summands
  pub limited : is_limited l ≡ true

-- a sum that is being made: its summands in any order, its constant, and of how many terms it is
pub record SumValue : Type 0 where
  pub summands : List Summand
  pub constant : ℤ
  pub terms : ℕ

-- what terms give to a sum
pub record IsSummand (s : Summand) : Type 0 where
  pub above : 0 < s.point
  pub below : s.point < points_limit
  pub limited : is_within coefficient_limit s.coefficient ≡ true

-- the constants of its terms are each within their limit
pub record IsSum (s : SumValue) : Type 0 where
  pub each : AllByRecursion IsSummand s.summands
  pub low : neg_ℤ (pos (constant_limit * s.terms)) ≤ℤ s.constant
  pub high : s.constant ≤ℤ pos (constant_limit * s.terms)

-- one more term in a sum, and the negative of one more
abbrev pub with_term : SumValue → LinearValue → SumValue
with_term s l = record {
  summands = s.summands ++ l.summands;
  constant = s.constant +ℤ l.constant;
  terms = s.terms + 1;
}

abbrev pub with_negative : SumValue → LinearValue → SumValue
with_negative s l = record {
  summands = s.summands ++ map negative_summand l.summands;
  constant = s.constant +ℤ neg_ℤ l.constant;
  terms = s.terms + 1;
}

-- more terms, and one more or its negative
abbrev pub with_terms : SumValue → List LinearValue → SumValue
with_terms s ls = record {
  summands = s.summands ++ summands_of ls;
  constant = s.constant +ℤ constants_of ls;
  terms = s.terms + length ls;
}

abbrev pub with_signed : Bool → SumValue → LinearValue → SumValue
with_signed negated s l = if negated then with_negative s l else with_term s l

-- the term that a sum is, where it is within the limits
abbrev pub term_of : SumValue → LinearValue
term_of s = record { summands = collected s.summands; constant = s.constant }
