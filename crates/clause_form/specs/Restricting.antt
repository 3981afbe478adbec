-- The schedule that values of the time points give: one value for each declared name.
use Rattle.std.specs.Prelude.{List, [], ◌∷◌, ℤ, pos, ◌-ℤ◌, int_le}
use Rattle.stn_core.specs.declared.named.NamedValue.{NamedValue}
use Rattle.stn_core.specs.declared.named.NamedValue.TheVariants.{Int, Truth}
pub use Rattle.idl_node.specs.Sorts.{IsOfSort, AreOfSorts}
use Rattle.idl_node.specs.declared.sort.Sort.{Sort}
use Rattle.idl_node.specs.declared.sort.Sort.TheVariants as sort

-- the value of a name by that of its time point, less the zero point's: a Bool name is true where it is at most 0
abbrev pub named_value : Sort → ℤ → NamedValue
named_value sort.Int n = Int n
named_value sort.Bool n = Truth (int_le n (pos 0))

abbrev pub restricted_by : ℤ → List Sort → List ℤ → List NamedValue
restricted_by zero_value (s ∷ sorts) (v ∷ values) = named_value s (v -ℤ zero_value) ∷ restricted_by zero_value sorts values
restricted_by zero_value _ _ = []

-- the zero point's value stands first; values behind the last name's aren't looked at
abbrev pub restricted : List Sort → List ℤ → List NamedValue
restricted sorts [] = []
restricted sorts (zero_value ∷ values) = restricted_by zero_value sorts values
