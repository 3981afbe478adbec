use Rattle.std.specs.Prelude.{◌≢◌, ℕ, ◌<◌, List, length, slice_index}
use Rattle.stn_core.specs.declared.literal.Literal.{Literal}
use Rattle.stn_core.specs.Literal.{literal_at}

-- the first time point of the literal at a place
abbrev pub x_at : List Literal → ℕ → ℕ
x_at literals place = (literal_at literals place).x

-- no time point is the first one of two of the literals; of a cycle: no time point comes twice
-- (a simple cycle: Dechter, Meiri, Pearl 1991, section 3)
abbrev pub IsSimple : List Literal → Type 0
IsSimple literals = (i j : ℕ) → i < j → j < length literals → x_at literals i ≢ x_at literals j

-- Of the code and not of the meaning: the point is not in the list. Contracts of private functions alone cite it.
abbrev pub LacksPoint : List ℕ → ℕ → Type 0
LacksPoint points point = (k : ℕ) → k < length points → slice_index points k ≢ point
