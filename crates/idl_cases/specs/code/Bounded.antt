-- Bounds on the linear terms of cases. These are words of the code, and no part of the meaning.
use Rattle.std.specs.Prelude.{◌≡◌, ◌≤◌, ◌+◌, List}
use Rattle.std.specs.List.{AllByRecursion}
use Rattle.idl_linear.specs.Forms.{IsLinear}
use Rattle.idl_linear.specs.Limits.{coefficient_limit, constant_limit}
use Rattle.idl_linear.specs.Linear.{LinearValue}
use Rattle.idl_linear.specs.code.Bounded.{IsBounded, IsOver}
use Rattle.idl_cases.specs.Guarded.{CaseValue}
use Rattle.idl_cases.specs.declared.bounds.Bounds.{Bounds}

abbrev pub AreLimits : Bounds → Type 0
AreLimits b = (b.constant ≤ constant_limit) × (b.coefficient ≤ coefficient_limit)

abbrev pub IsBelow : Bounds → Bounds → Type 0
IsBelow a b = (a.constant ≤ b.constant) × (a.coefficient ≤ b.coefficient)

abbrev pub IsTogether : Bounds → Bounds → Bounds → Type 0
IsTogether a b c = (c.constant ≡ a.constant + b.constant) × (c.coefficient ≡ a.coefficient + b.coefficient)

abbrev pub IsWithinBounds : Bounds → LinearValue → Type 0
IsWithinBounds b l = IsBounded b.constant b.coefficient l

abbrev pub AreBounded : Bounds → List CaseValue → Type 0
AreBounded b cases = AllByRecursion (λ (c : CaseValue). IsWithinBounds b c.linear) cases

abbrev pub AreLinear : List CaseValue → Type 0
AreLinear cases = AllByRecursion (λ (c : CaseValue). IsLinear c.linear) cases

abbrev pub AreOver : List CaseValue → Type 0
AreOver cases = AllByRecursion (λ (c : CaseValue). IsOver c.linear) cases

abbrev pub ArePoints : List LinearValue → Type 0
ArePoints ls = AllByRecursion IsOver ls
