-- Sums of cases. These are words of the code, and no part of the meaning.
use Rattle.std.specs.Prelude.{◌≡◌, ◌<◌, ◌^◌, ◌-◌, ℕ, List, [], ◌∷◌, ◌++◌, map, length, min, slice_index_or, Bool, true, false, if◌then◌else◌, Option, Some, None, pos}
use Rattle.std.specs.List.{AllByRecursion, list_all}
use Rattle.std.proofs.Common.{refl}
use Rattle.std.proofs.lemmas.List.{length-map}
use Rattle.idl_linear.specs.Linear.{LinearValue, sum_of, negative_of, number_alone, is_limited}
use Rattle.idl_linear.specs.code.Bounded.{IsOver}
use Rattle.idl_cases.specs.code.Bounded.{AreOver}
use Rattle.idl_cases.specs.Guarded.{CaseValue}

abbrev pub signed_linear : Bool → LinearValue → LinearValue
signed_linear negated l = if negated then negative_of l else l

abbrev pub negated_case : CaseValue → CaseValue
negated_case case = record { guards = case.guards; linear = negative_of case.linear }

-- the cases, or their negatives
abbrev pub signed_cases : Bool → List CaseValue → List CaseValue
signed_cases negated cases = if negated then map negated_case cases else cases

pub signed_count : (negated : Bool) (cases : List CaseValue) → length (signed_cases negated cases) ≡ length cases
signed_count true cases = length-map cases negated_case
signed_count false cases = refl

abbrev pub pair_sum : LinearValue → LinearValue → LinearValue
pair_sum a b = sum_of (a ∷ b ∷ [])

-- a linear term more in a case
abbrev pub moved : LinearValue → CaseValue → CaseValue
moved by case = record { guards = case.guards; linear = pair_sum by case.linear }

abbrev pub added : CaseValue → CaseValue → CaseValue
added a b = record { guards = a.guards ++ b.guards; linear = pair_sum a.linear b.linear }

-- the cases of the first outside, those of the second inside
abbrev pub added_each : List CaseValue → List CaseValue → List CaseValue
added_each [] bs = []
added_each (a ∷ rest) bs = map (added a) bs ++ added_each rest bs

abbrev pub added_all : List CaseValue → List (List CaseValue) → List CaseValue
added_all so_far [] = so_far
added_all so_far (bs ∷ rest) = added_all (added_each so_far bs) rest

abbrev pub are_limited : List CaseValue → Bool
are_limited cases = list_all (λ (c : CaseValue). is_limited c.linear) cases

abbrev pub moved_by : Option LinearValue → List CaseValue → List CaseValue
moved_by None cases = cases
moved_by (Some by) cases = map (moved by) cases

pub moved_count : (by : Option LinearValue) (cases : List CaseValue) → length (moved_by by cases) ≡ length cases
moved_count None cases = refl
moved_count (Some by) cases = length-map cases (moved by)

-- a case by its place
abbrev pub case_at : List CaseValue → ℕ → CaseValue
case_at cases place = slice_index_or cases place (record { guards = []; linear = number_alone (pos 0) })

-- ---- sums that are being made

pub record Summed : Type 0 where
  pub start : CaseValue
  pub choices : List (List CaseValue)

abbrev pub summed_cases : Summed → List CaseValue
summed_cases s = added_all (s.start ∷ []) s.choices

-- more than one case, each over names' time points
abbrev pub AreChoices : List CaseValue → Type 0
AreChoices cases = (1 < length cases) × AreOver cases

pub record IsSummed (s : Summed) (count : ℕ) : Type 0 where
  pub guards : s.start.guards ≡ []
  pub over : IsOver s.start.linear
  pub each : AllByRecursion AreChoices s.choices
  pub counted : count ≡ min (length (summed_cases s)) (2 ^ 64 - 1)
