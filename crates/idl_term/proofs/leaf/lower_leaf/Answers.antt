use Rattle.idl_scope.specs.code.LocalNames.{scope_in}
use Rattle.idl_term.proofs.FirstRefusals.{front_same}
use Rattle.idl_term.proofs.leaf.lower_leaf.Goals as goal

pub returns-in_default : goal.returns-in_default
returns-in_default c = record {
  makes = c.lower_token.ensures (scope_in c.args.locals.now) c.args.nodes.now;
  front = front_same c.args.nodes.now;
}
