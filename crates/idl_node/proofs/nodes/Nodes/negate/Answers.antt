use Rattle.std.proofs.Common.{sym, ap, subst, ◌∙◌, ◌≡◌, Option}
use Rattle.stn_core.specs.declared.literal.Literal.{Literal}
use Rattle.stn_core.specs.Literal.{negation_of}
use Rattle.idl_node.specs.code.Made.{Makes}
use Rattle.idl_node.specs.Making.{denied}
use Rattle.idl_node.specs.Nodes.{Placed, atom, placed}
use Rattle.idl_node.proofs.Denying.{denied_atom, denied_denial, denied_other}
use Rattle.idl_node.proofs.nodes.Nodes.negate.Goals as goal

pub returns-in-Atom-clause-makes : goal.returns-in-Atom-clause-makes
returns-in-Atom-clause-makes c =
    let found = c.in-Some.ensures.lookup in
    let is : denied c.args.self.now c.args.number ≡ placed c.args.self.now (atom (negation_of c.in-Atom.literal)) = denied_atom c.as_slice.result.now c.args.self.now c.as_slice.ensures.nodes c.args.number c.in-Some.node.now found.0 found.1 c.in-Atom.literal c.in-Atom.is in
    let opposite : placed c.args.self.now (atom c.negate-opposite.result) ≡ placed c.args.self.now (atom (negation_of c.in-Atom.literal)) = ap (λ (l : Literal). placed c.args.self.now (atom l)) c.negate-opposite.ensures in
    subst (λ (o : Option Placed). Makes c.place-in-Atom.new.self o c.place-in-Atom.result) (opposite ∙ sym is) c.place-in-Atom.ensures.makes

pub returns-in-Not-clause-makes : goal.returns-in-Not-clause-makes
returns-in-Not-clause-makes c =
    let found = c.in-Some.ensures.lookup in
    denied_denial c.as_slice.result.now c.args.self.now c.as_slice.ensures.nodes c.args.number c.in-Some.node.now found.0 found.1 c.in-Not.member c.in-Not.is

pub returns-in_default-node-clause-makes : goal.returns-in_default-node-clause-makes
returns-in_default-node-clause-makes c =
    let found = c.in-Some.ensures.lookup in
    subst (λ (o : Option Placed). Makes c.place-in_default-node.new.self o c.place-in_default-node.result)
    (sym (denied_other c.as_slice.result.now c.args.self.now c.as_slice.ensures.nodes c.args.number c.in-Some.node.now found.0 found.1 c.in_default-node.not-Atom c.in_default-node.not-Not)) c.place-in_default-node.ensures.makes

pub returns-in_default-node-clause-front : goal.returns-in_default-node-clause-front
returns-in_default-node-clause-front c = c.place-in_default-node.ensures.front
