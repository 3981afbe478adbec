-- Cases by their places. These are words of the code, and no part of the meaning.
use Rattle.std.specs.Prelude.{◌≡◌, ◌<◌, ℕ, List, map, length}
use Rattle.idl_cases.specs.Guarded.{CaseValue}
use Rattle.idl_cases.specs.code.CaseSums.{added, case_at, signed_cases}
use Rattle.idl_cases.specs.declared.places.Behind.{Behind}
use Rattle.idl_cases.specs.declared.places.Behind.TheVariants.{Nothing, One, Two}
use Rattle.idl_cases.specs.declared.places.Place.{Place}
use Rattle.idl_cases.specs.declared.summing.Signed.{Signed}

abbrev pub signed_lists : List Signed → List (List CaseValue)
signed_lists choices = map (λ (s : Signed). signed_cases s.is_negated s.choices.now) choices

abbrev pub place_case : Place → CaseValue
place_case p = case_at (signed_cases p.is_negated p.choices.now) p.place

pub record IsPlace (limit : ℕ) (p : Place) : Type 0 where
  pub within : p.place < length p.choices.now
  pub fewer : length p.choices.now < limit

-- what is still to be added to a case, so that it is the whole
abbrev pub IsOpened : ℕ → CaseValue → CaseValue → Behind → Type 0
IsOpened limit whole case Nothing = case ≡ whole
IsOpened limit whole case (One p) = IsPlace limit p × (added case (place_case p) ≡ whole)
IsOpened limit whole case (Two p q) = IsPlace limit p × IsPlace limit q × (added (added case (place_case p)) (place_case q) ≡ whole)
