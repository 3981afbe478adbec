-- The value of a linear term on values of the time points.
use Rattle.std.specs.Prelude.{List, [], ◌∷◌, ℤ, pos, neg_ℤ, ◌+ℤ◌, ◌-ℤ◌, ◌*ℤ◌, slice_index_or}
use Rattle.idl_linear.specs.declared.summand.Summand.{Summand}
use Rattle.idl_linear.specs.Linear.{LinearValue}

abbrev pub summands_value : List ℤ → List Summand → ℤ
summands_value values [] = pos 0
summands_value values (s ∷ rest) = (s.coefficient *ℤ slice_index_or values s.point (pos 0)) +ℤ summands_value values rest

abbrev pub linear_value : List ℤ → LinearValue → ℤ
linear_value values l = summands_value values l.summands +ℤ l.constant

abbrev pub sum_of_values : List ℤ → List LinearValue → ℤ
sum_of_values values [] = pos 0
sum_of_values values (l ∷ ls) = linear_value values l +ℤ sum_of_values values ls

-- the negative of one value, or the first less the others
abbrev pub subtracted : List ℤ → List LinearValue → ℤ
subtracted values [] = pos 0
subtracted values (l ∷ []) = neg_ℤ (linear_value values l)
subtracted values (l ∷ m ∷ ms) = linear_value values l -ℤ sum_of_values values (m ∷ ms)
