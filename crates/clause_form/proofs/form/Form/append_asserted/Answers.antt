use Rattle.std.proofs.Common.{refl, ap}
use Rattle.idl_node.specs.Nodes.{node_value}
use Rattle.clause_form.proofs.Pieces.{asserted_or}
use Rattle.clause_form.proofs.form.Form.append_asserted.Goals as goal

pub returns-in_ok-push-in-Or : goal.returns-in_ok-push-in-Or
returns-in_ok-push-in-Or c = λ k points inner n.
    asserted_or points _ inner c.args.node.now _ refl _ _ _ k _ _ (ap node_value c.in-Or.is) c.deref.ensures.value (c.in_ok-members_clause-in-Or.ensures points inner n) c.in_ok-push-in-Or.ensures.items
