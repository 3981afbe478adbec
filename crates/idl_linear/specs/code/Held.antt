-- Of the code and not of the meaning: how a linear term holds its summands.
use Rattle.std.specs.Prelude.{List, [], ◌∷◌}
use Rattle.std.specs.Arc.{arc_value}
use Rattle.idl_linear.specs.declared.summand.Summand.{Summand}
use Rattle.idl_linear.specs.declared.held.Held.{Held as Holding}
use Rattle.idl_linear.specs.declared.held.Held.TheVariants.{One, Two, Many, Shared}
use Rattle.idl_linear.specs.code.Trees.{signed}

abbrev pub held_summands : Holding → List Summand
held_summands (One s) = s ∷ []
held_summands (Two pair) = pair
held_summands (Many summands) = summands.items
held_summands (Shared negated tree) = signed negated (arc_value tree).summands
