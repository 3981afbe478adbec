-- How the code keeps the cases of a term. These are words of the code, and no part of the meaning.
use Rattle.std.specs.Prelude.{◌≡◌, ◌<◌, ◌≤◌, ◌+◌, ℕ, List, length}
use Rattle.idl_cases.specs.Guarded.{CaseValue, plain, branched}
use Rattle.idl_cases.specs.code.Bounded.{AreBounded, AreLimits, AreLinear, AreOver}
use Rattle.idl_cases.specs.code.CaseSums.{added_each, moved_by}
use Rattle.idl_cases.specs.declared.bounds.Bounds.{Bounds}
use Rattle.idl_cases.specs.declared.cases.Kind.{Kind}
use Rattle.idl_cases.specs.declared.cases.Kind.TheVariants.{Plain, Chosen}
use Rattle.idl_cases.specs.declared.choices.Part.{Part}
use Rattle.idl_cases.specs.declared.choices.Part.TheVariants.{Branched, Sum, Listed}

abbrev pub cases_in : Kind → List CaseValue
cases_in (Plain l) = plain l
cases_in (Chosen by choices) = moved_by by choices

-- choices are more than one, and each case is a linear term
abbrev pub IsKind : Kind → Type 0
IsKind (Plain l) = Unit {0}
IsKind (Chosen by choices) = (1 < length choices) × AreOver choices × AreLinear (moved_by by choices)

abbrev pub tree_in : Part → List CaseValue
tree_in (Branched condition denial a b) = branched condition denial a b
tree_in (Sum a b) = added_each a b
tree_in (Listed cases) = cases.items

-- parts have fewer cases, and those of a sum are over names' time points
abbrev pub AreFewer : Part → Type 0
AreFewer (Branched condition denial a b) = (0 < length a) × (0 < length b)
AreFewer (Sum a b) = (1 < length a) × (1 < length b) × (length a + length b ≤ length (added_each a b)) × AreOver a × AreOver b
AreFewer (Listed cases) = Unit {0}

pub record IsTree (count : ℕ) (bounds : Bounds) (part : Part) : Type 0 where
  pub fewer : AreFewer part
  pub counted : count ≡ length (tree_in part)
  pub many : 1 < length (tree_in part)
  pub limits : AreLimits bounds
  pub each : AreBounded bounds (tree_in part)
