-- The limit of the lemmas of one list.
use Rattle.std.specs.Prelude.{ℕ}

-- the greatest count of lemmas in one list to whose end a batch can be moved: 2 to the 32
abbrev pub lemmas_limit : ℕ
lemmas_limit = 4294967296
