use Rattle.std.proofs.Common.{sym, ◌∙◌}
use Rattle.idl_node.specs.Nodes.{shown}
use Rattle.clause_form.proofs.Pieces.{plain_literal}
use Rattle.clause_form.proofs.form.Form.literal.Goals as goal

pub returns-in-None : goal.returns-in-None
returns-in-None c = λ points inner n. c.body_literal-in-None.ensures points inner n ∙ sym (plain_literal points (shown c.args.self.now.nodes.now) inner c.args.number (sym c.denied_member.ensures ∙ c.in-None.is))
