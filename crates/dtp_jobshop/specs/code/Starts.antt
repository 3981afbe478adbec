-- Of the code and not of the meaning: the whole numbers of a schedule, in order.
use Rattle.std.specs.Prelude.{List, [], ◌∷◌, ℤ}
use Rattle.stn_core.specs.declared.named.NamedValue.{NamedValue}
use Rattle.stn_core.specs.declared.named.NamedValue.TheVariants.{Int, Truth}

abbrev pub with_number : NamedValue → List ℤ → List ℤ
with_number (Int n) numbers = n ∷ numbers
with_number (Truth b) numbers = numbers

abbrev pub numbers_of : List NamedValue → List ℤ
numbers_of [] = []
numbers_of (value ∷ values) = with_number value (numbers_of values)
