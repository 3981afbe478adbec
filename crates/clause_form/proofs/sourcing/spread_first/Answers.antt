use Rattle.std.proofs.Common.{sym, ap, subst, ◌∙◌, length}
use Rattle.idl_node.specs.Nodes.{NodeValue, conjunction, disjunction, node_value}
use Rattle.clause_form.specs.Polarity.{spread}
use Rattle.clause_form.specs.code.FirstRoots.{AreFirstPolarities}
use Rattle.clause_form.proofs.Firsts.{by_asserted, by_denied, spread_and, spread_or, spread_not}
use Rattle.clause_form.proofs.sourcing.spread_first.Goals as goal

pub returns-in-Not : goal.returns-in-Not
returns-in-Not c = λ p h.
    let n = length c.args.asserted.now in
    subst (λ (v : NodeValue). AreFirstPolarities n c.args.count c.lower-in-Not.new.firsts c.lower.new.firsts (λ r. spread c.args.number v (p r))) (sym (ap node_value c.in-Not.is))
    (spread_not n c.args.count c.args.number c.args.asserted.now c.args.denied.now p c.requires.in_asserted h c.in-Not.member c.lower-in-Not.new.firsts c.lower.new.firsts _ _
    (by_asserted n c.args.count c.args.number c.args.asserted.now c.args.denied.now p c.requires.in_asserted h 0) (by_denied n c.args.count c.args.number c.args.asserted.now c.args.denied.now p c.requires.in_asserted h 0)
    c.lower.ensures.count c.lower.ensures.each c.lower-in-Not.ensures.count c.lower-in-Not.ensures.each)

pub returns-in-And : goal.returns-in-And
returns-in-And c = λ p h.
    let n = length c.args.asserted.now in
    subst (λ (v : NodeValue). AreFirstPolarities n c.args.count c.lower_all.new.firsts c.args.denied.now (λ r. spread c.args.number v (p r))) (sym (ap node_value c.in-And.is ∙ ap conjunction (sym c.deref.ensures.value)))
    (spread_and n c.args.count c.args.number c.args.asserted.now c.args.denied.now p c.requires.in_asserted h c.deref.result.now c.lower_all.new.firsts _
    (by_asserted n c.args.count c.args.number c.args.asserted.now c.args.denied.now p c.requires.in_asserted h 0) c.lower_all.ensures.count c.lower_all.ensures.each)

pub returns-in-Or : goal.returns-in-Or
returns-in-Or c = λ p h.
    let n = length c.args.asserted.now in
    subst (λ (v : NodeValue). AreFirstPolarities n c.args.count c.args.asserted.now c.lower_all-in-Or.new.firsts (λ r. spread c.args.number v (p r))) (sym (ap node_value c.in-Or.is ∙ ap disjunction (sym c.deref-in-Or.ensures.value)))
    (spread_or n c.args.count c.args.number c.args.asserted.now c.args.denied.now p c.requires.in_asserted h c.deref-in-Or.result.now c.lower_all-in-Or.new.firsts _
    (by_denied n c.args.count c.args.number c.args.asserted.now c.args.denied.now p c.requires.in_asserted h 0) c.lower_all-in-Or.ensures.count c.lower_all-in-Or.ensures.each)
