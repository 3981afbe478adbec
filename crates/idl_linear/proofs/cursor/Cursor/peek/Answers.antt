use Rattle.std.proofs.Common.{subst, List, ◌++◌}
use Rattle.idl_linear.specs.declared.summand.Summand.{Summand}
use Rattle.idl_linear.specs.code.Steps.{IsRest}
use Rattle.idl_linear.specs.code.Trees.{since, tree_list}
use Rattle.idl_linear.proofs.Putting.{rest-signed}
use Rattle.idl_linear.proofs.cursor.Cursor.peek.Goals as goal

pub returns-clause-rest : goal.returns-clause-rest
returns-clause-rest c =
    subst (λ (l : List Summand). IsRest l) c.self.view_is
    (rest-signed c.self.inside.is_negated (c.self.inside.part.now ++ since c.self.inside.next (tree_list c.self.inside.tree)) c.self.invariant.left_rest)
