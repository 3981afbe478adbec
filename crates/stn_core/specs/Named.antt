-- Values of declared names.
use Rattle.std.specs.Prelude.{ℕ, List, All, ℤ, pos, neg_ℤ, ◌≤ℤ◌}
use Rattle.stn_core.specs.declared.named.NamedValue.{NamedValue}
use Rattle.stn_core.specs.declared.named.NamedValue.TheVariants.{Int, Truth}
use Rattle.stn_core.specs.Limits.{named_value_limit}

-- a whole number's absolute value is within the limit
abbrev pub IsWithinLimit : NamedValue → Type 0
IsWithinLimit (Int n) = (neg_ℤ (pos named_value_limit) ≤ℤ n) × (n ≤ℤ pos named_value_limit)
IsWithinLimit (Truth b) = Unit {0}

abbrev pub AreWithinLimit : List NamedValue → Type 0
AreWithinLimit values = All IsWithinLimit values
