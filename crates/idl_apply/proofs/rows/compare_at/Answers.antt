use Rattle.std.proofs.Common.{arith, List, Bor, length, ◌<◌}
use Rattle.std.proofs.lemmas.List.{length-map}
use Rattle.idl_cases.specs.Guarded.{CaseValue}
use Rattle.idl_apply.specs.code.Repeats.{term_at}
use Rattle.idl_apply.proofs.Arguments.{seen}
use Rattle.idl_apply.proofs.PairsCompared.{found_again, compared_before, compared_once}
use Rattle.idl_apply.proofs.RepeatedTerms.{compared_seen}
use Rattle.idl_apply.proofs.rows.compare_at.Goals as goal

pub returns-then-before-j-clause-makes : goal.returns-then-before-j-clause-makes
returns-then-before-j-clause-makes c =
    let within : c.args.j < length (seen c.args.all.terms.now) = omega (arith, c.requires.within, length-map c.args.all.terms.now (λ (b : Bor (List CaseValue)). b.now)) in
    found_again c.args.all.relation c.args.nodes.now (term_at (seen c.args.all.terms.now) c.args.i) (term_at (seen c.args.all.terms.now) c.args.j) _
    (compared_before c.args.all.relation c.args.nodes.now (seen c.args.all.terms.now) c.args.all.earlier.now c.args.row.now c.args.i c.args.j c.place_before-before.result c.place_before-before.ensures (omega (arith, c.if-i-before.true)) (omega (arith, c.if-before-j.true)) within
    c.requires.leads c.requires.row)

pub returns-then-before-j-clause-settled : goal.returns-then-before-j-clause-settled
returns-then-before-j-clause-settled c =
    let within : c.args.j < length (seen c.args.all.terms.now) = omega (arith, c.requires.within, length-map c.args.all.terms.now (λ (b : Bor (List CaseValue)). b.now)) in
    λ repeats. compared_before c.args.all.relation c.args.nodes.now (seen c.args.all.terms.now) c.args.all.earlier.now c.args.row.now c.args.i c.args.j c.place_before-before.result c.place_before-before.ensures (omega (arith, c.if-i-before.true)) (omega (arith, c.if-before-j.true)) within
    c.requires.leads c.requires.row

pub returns-clause-settled : goal.returns-clause-settled
returns-clause-settled c =
    let within : c.args.j < length (seen c.args.all.terms.now) = omega (arith, c.requires.within, length-map c.args.all.terms.now (λ (b : Bor (List CaseValue)). b.now)) in
    λ repeats. compared_once c.args.all.relation c.args.nodes.now c.compare_cases.new.nodes (seen c.args.all.terms.now) c.args.i c.args.j c.in_ok-number.number (c.requires.guarded repeats) (omega (arith, c.requires.order, within)) within
    (compared_seen c.args.all.relation c.args.nodes.now c.args.all.terms.now c.args.i c.args.j c.index-all-i.result c.index-all-j.result _ (omega (arith, c.requires.order, c.requires.within)) c.requires.within c.index-all-i.is c.index-all-j.is c.in_ok-number.ensures.makes)
