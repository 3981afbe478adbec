-- A literal with its negation.
use Rattle.std.specs.Prelude.{List, [], ◌∷◌}
use Rattle.stn_core.specs.declared.literal.Literal.{Literal}
use Rattle.stn_core.specs.Literal.{negation_of}

-- a literal and its negation
abbrev pub pair_of : Literal → List Literal
pair_of l = l ∷ negation_of l ∷ []
