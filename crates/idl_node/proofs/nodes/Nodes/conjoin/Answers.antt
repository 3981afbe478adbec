use Rattle.std.proofs.Common.{arith, sym, subst, Option}
use Rattle.idl_node.specs.code.Made.{Makes}
use Rattle.idl_node.specs.Nodes.{Placed}
use Rattle.idl_node.proofs.Denying.{conjoined_many}
use Rattle.idl_node.proofs.nodes.Nodes.conjoin.Goals as goal

pub returns-then-len-ne1-clause-makes : goal.returns-then-len-ne1-clause-makes
returns-then-len-ne1-clause-makes c =
    subst (λ (o : Option Placed). Makes c.place.new.self o c.place.result) (sym (conjoined_many c.args.self.now c.args.members.items (λ e. c.if-len-ne1.true (omega (arith, e, c.len.ensures, c.args.members.ok))))) c.place.ensures.makes
