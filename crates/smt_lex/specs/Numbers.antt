-- The number that decimal digits stand for.
use Rattle.std.specs.Prelude.{ℕ, ◌+◌, ◌-◌, ◌*◌, List, [], ◌∷◌}

-- the number that the digits stand for behind digits that stand for acc; the byte of digit 0 is 48
unfoldable pub value_from : ℕ → List ℕ → ℕ
value_from acc [] = acc
value_from acc (d ∷ ds) = value_from (acc * 10 + (d - 48)) ds

abbrev pub value_of : List ℕ → ℕ
value_of digits = value_from 0 digits
