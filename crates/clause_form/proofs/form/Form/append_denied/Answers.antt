use Rattle.std.proofs.Common.{refl, ap}
use Rattle.idl_node.specs.Nodes.{node_value}
use Rattle.clause_form.proofs.Pieces.{denied_and}
use Rattle.clause_form.proofs.form.Form.append_denied.Goals as goal

pub returns-in_ok-push-in-And : goal.returns-in_ok-push-in-And
returns-in_ok-push-in-And c = λ k points inner n.
    denied_and points _ inner c.args.node.now _ refl _ _ _ k _ _ (ap node_value c.in-And.is) c.deref.ensures.value (c.in_ok-members_clause-in-And.ensures points inner n) c.in_ok-push-in-And.ensures.items
