use Rattle.std.proofs.Common.{arith}
use Rattle.idl_node.proofs.ToldApart.{told_again, told_once, told_taken}
use Rattle.idl_node.proofs.nodes.Nodes.tell_two_apart.Goals as goal

pub returns-then-before-j-clause-makes : goal.returns-then-before-j-clause-makes
returns-then-before-j-clause-makes c =
    told_again c.args.self.now _ _ _
    (told_taken c.args.self.now c.args.members.now c.args.earlier.now c.args.row.now c.args.i c.args.j c.place_before-before.result c.place_before-before.ensures (omega (arith, c.if-i-before.true)) (omega (arith, c.if-before-j.true)) c.requires.within c.requires.leads c.requires.row)

pub returns-then-before-j-clause-settled : goal.returns-then-before-j-clause-settled
returns-then-before-j-clause-settled c =
    λ repeats. told_taken c.args.self.now c.args.members.now c.args.earlier.now c.args.row.now c.args.i c.args.j c.place_before-before.result c.place_before-before.ensures (omega (arith, c.if-i-before.true)) (omega (arith, c.if-before-j.true)) c.requires.within c.requires.leads c.requires.row

pub returns-clause-settled : goal.returns-clause-settled
returns-clause-settled c =
    λ repeats. told_once c.args.self.now c.different.new.self c.args.members.now c.args.i c.args.j c.in_ok-number.number (c.requires.below repeats) (omega (arith, c.requires.order, c.requires.within)) c.requires.within c.in_ok-number.ensures.makes
