-- Where the value of an Int term is still looked for. These are words of the code, and no part of the meaning.
use Rattle.std.specs.Prelude.{ℕ, ℤ, ◌+ℤ◌, ◌<◌, List, length, Bool, if◌then◌else◌, Option, Some, None}
use Rattle.std.specs.Int.{w128, int_wrap}
use Rattle.idl_cases.specs.Guarded.{CaseValue, branched}
use Rattle.idl_cases.specs.code.GuardBounds.{AreGuardsBelow}
use Rattle.idl_value.specs.code.Evaluating.{first_value, signed_number}
use Rattle.idl_value.specs.declared.pending.Branches.{Branches}
use Rattle.idl_value.specs.declared.pending.Pending.{Pending}
use Rattle.idl_value.specs.declared.pending.Step.{Step}
use Rattle.idl_value.specs.declared.pending.Step.TheVariants.{Found, On}

-- the first one's, where there is one, else the second one's
abbrev pub either_value : Option ℤ → Option ℤ → Option ℤ
either_value (Some z) other = Some z
either_value None other = other

-- what is found behind a guard
abbrev pub where_true : Bool → Option ℤ → Option ℤ
where_true is_true found = if is_true then found else None

-- a value or its negative, and this sum more, modulo 2^128
abbrev pub whole_number : Bool → ℤ → ℤ → ℤ
whole_number negated sum z = int_wrap w128 (sum +ℤ signed_number negated z)

-- the whole's value where this one is the part's
abbrev pub whole_of : Bool → ℤ → Option ℤ → Option ℤ → Option ℤ
whole_of negated sum otherwise (Some z) = Some (whole_number negated sum z)
whole_of negated sum otherwise None = otherwise

abbrev pub whole_value : Pending → Option ℤ → Option ℤ
whole_value p found = whole_of p.is_negated p.sum p.otherwise found

-- where the step leads
abbrev pub step_value : (ℕ → Bool) → List ℤ → Step → Option ℤ
step_value test values (Found found) = found
step_value test values (On p) = whole_value p (first_value test values p.choices.now)

-- what is left has fewer cases than this, whose guards are among the first nodes, so many
abbrev pub IsStepWithin : ℕ → ℕ → Step → Type 0
IsStepWithin count limit (Found found) = Unit {0}
IsStepWithin count limit (On p) = AreGuardsBelow count p.choices.now × (length p.choices.now < limit)

abbrev pub branches_cases : Branches → List CaseValue
branches_cases b = branched b.condition b.denial b.yes.now b.no.now

abbrev pub AreBoth : Branches → Type 0
AreBoth b = (0 < length b.yes.now) × (0 < length b.no.now)
