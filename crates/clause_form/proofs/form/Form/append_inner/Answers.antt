use Rattle.std.proofs.Common.{refl, ap}
use Rattle.idl_node.specs.Nodes.{node_value}
use Rattle.clause_form.proofs.Pieces.{inner_and, inner_or}
use Rattle.clause_form.proofs.form.Form.append_inner.Goals as goal

pub returns-in_ok-push-in-And : goal.returns-in_ok-push-in-And
returns-in_ok-push-in-And c = λ points inner n.
    inner_and points _ inner c.args.node.now _ refl _ _ _ c.args.point _ _ _ _ _ _ (ap node_value c.in-And.is) c.deref.ensures.value c.deref-in-And.ensures.value c.fails.ensures c.stands.ensures
    (c.in_ok-append_pairs-in-And.ensures points inner n) (c.in_ok-longer_clause-in-And.ensures points inner n) c.in_ok-push-in-And.ensures.items

pub returns-in_ok-append_pairs-in-Or : goal.returns-in_ok-append_pairs-in-Or
returns-in_ok-append_pairs-in-Or c = λ points inner n.
    inner_or points _ inner c.args.node.now _ refl _ _ _ c.args.point _ _ _ _ _ _ (ap node_value c.in-Or.is) c.deref-in-Or.ensures.value c.deref-in-Or-2.ensures.value c.fails-in-Or.ensures c.stands-in-Or.ensures
    (c.in_ok-longer_clause-in-Or.ensures points inner n) c.in_ok-push-in-Or.ensures.items (c.in_ok-append_pairs-in-Or.ensures points inner n)
