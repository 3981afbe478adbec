-- What calls see of the cases of a term. These are words of the code, and no part of the meaning.
use Rattle.std.specs.Prelude.{◌≡◌, ◌<◌, List, map, length, Bool}
use Rattle.idl_cases.specs.Guarded.{CaseValue, plain, branched}
use Rattle.idl_cases.specs.code.CaseSums.{added_each, moved, signed_cases}
use Rattle.idl_cases.specs.code.Bounded.{AreLinear, AreOver}
use Rattle.idl_cases.specs.declared.shape.Form.{Form}
use Rattle.idl_cases.specs.declared.shape.Form.TheVariants as form
use Rattle.idl_cases.specs.declared.shape.Chosen.{Chosen}
use Rattle.idl_cases.specs.declared.shape.Chosen.TheVariants as chosen

-- the cases are those of a linear term, or choices, or choices with a linear term more
abbrev pub IsChosen : List CaseValue → Chosen → Type 0
IsChosen cases (chosen.Plain l) = cases ≡ plain l.now
IsChosen cases (chosen.Choices choices) = (cases ≡ choices.now) × (length choices.now ≡ length cases)
IsChosen cases (chosen.Moved by choices) = (cases ≡ map (moved by.now) choices.now) × (length choices.now ≡ length cases) × AreOver choices.now × AreLinear cases

-- what choices are made of
abbrev pub IsForm : List CaseValue → Bool → Form → Type 0
IsForm cases negated (form.Branched condition denial a b) = (cases ≡ signed_cases negated (branched condition denial a.now b.now)) × (0 < length a.now) × (0 < length b.now)
IsForm cases negated (form.Sum a b) = (cases ≡ signed_cases negated (added_each a.now b.now)) × (length a.now < length cases) × (length b.now < length cases) × AreOver a.now × AreOver b.now
IsForm cases negated (form.Listed listed) = cases ≡ signed_cases negated listed.now
