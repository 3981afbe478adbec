-- Of the code and not of the meaning: a tree with its sign.
use Rattle.std.specs.Prelude.{◌≡◌, List}
use Rattle.std.specs.Arc.{arc_value}
use Rattle.idl_linear.specs.declared.summand.Summand.{Summand}
use Rattle.idl_linear.specs.declared.held.Branches.{Branches}
use Rattle.idl_linear.specs.code.Steps.{IsRest}
use Rattle.idl_linear.specs.code.Trees.{signed}

pub record IsBranches (summands : List Summand) (branches : Branches) : Type 0 where
  pub same : signed branches.is_negated (arc_value branches.tree).summands ≡ summands
  pub rest : IsRest (arc_value branches.tree).summands
