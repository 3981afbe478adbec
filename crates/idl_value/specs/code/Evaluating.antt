-- Of the code and not of the meaning: how large values may be, and which case is valued.
use Rattle.std.specs.Prelude.{ℕ, ℤ, ◌+◌, ◌*◌, ◌<◌, ◌+ℤ◌, ◌≤ℤ◌, neg_ℤ, pos, List, [], ◌∷◌, Bool, if◌then◌else◌, Option, Some, None}
use Rattle.std.specs.List.{AllByRecursion, list_all}
use Rattle.stn_core.specs.Limits.{named_value_limit}
use Rattle.idl_linear.specs.declared.summand.Summand.{Summand}
use Rattle.idl_linear.specs.Limits.{coefficient_limit, constant_limit, points_limit}
use Rattle.idl_linear.specs.Values.{linear_value}
use Rattle.idl_cases.specs.Guarded.{CaseValue}

abbrev pub product_limit : ℕ
product_limit = coefficient_limit * named_value_limit

-- and the value of an Int term
abbrev pub term_limit : ℕ
term_limit = constant_limit + product_limit * points_limit

abbrev pub IsTermValue : ℤ → Type 0
IsTermValue v = (neg_ℤ (pos term_limit) ≤ℤ v) × (v ≤ℤ pos term_limit)

-- a case over so many time points, whose guards are among so many nodes
pub record IsCaseOver (count nodes : ℕ) (case : CaseValue) : Type 0 where
  pub guards : AllByRecursion (λ g. g < nodes) case.guards
  pub points : AllByRecursion (λ (s : Summand). s.point < count) case.linear.summands

-- the value of the first case whose guards all pass
abbrev pub first_value : (ℕ → Bool) → List ℤ → List CaseValue → Option ℤ
first_value test values [] = None
first_value test values (case ∷ cases) = if list_all test case.guards then Some (linear_value values case.linear) else first_value test values cases

-- the sum of the two, where there are both
abbrev pub both_values : Option ℤ → Option ℤ → Option ℤ
both_values (Some a) (Some b) = Some (a +ℤ b)
both_values (Some a) None = None
both_values None b = None

-- the value, or its negative
abbrev pub signed_number : Bool → ℤ → ℤ
signed_number negated v = if negated then neg_ℤ v else v

abbrev pub signed_value : Bool → Option ℤ → Option ℤ
signed_value negated (Some v) = Some (signed_number negated v)
signed_value negated None = None
