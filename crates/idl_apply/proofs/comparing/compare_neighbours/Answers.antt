use Rattle.std.proofs.Common.{arith, ap, sym, subst, ◌∙◌, ◌≤◌, ◌-◌, List, length, drop, length-drop, Bor}
use Rattle.std.specs.Prelude.{Result}
use Rattle.std.proofs.lemmas.List.{length-map}
use Rattle.idl_cases.specs.Guarded.{CaseValue}
use Rattle.idl_node.specs.Nodes.{Placed}
use Rattle.idl_apply.specs.Comparing.{each_compared}
use Rattle.idl_apply.specs.declared.error.TermRefusal.{TermRefusal}
use Rattle.idl_apply.specs.code.Shapes.{Places}
use Rattle.idl_apply.proofs.Arguments.{seen}
use Rattle.idl_apply.proofs.ComparisonNodes.{neighbours_none}
use Rattle.idl_apply.proofs.comparing.compare_neighbours.Goals as goal

pub returns-clause-makes : goal.returns-clause-makes
returns-clause-makes c =
    let left = drop (c.loop-i.i - 1) c.args.terms.now in
    let few : length (seen left) ≤ 1 = omega (arith, length-drop (c.loop-i.i - 1) c.args.terms.now, length-map left (λ (b : Bor (List CaseValue)). b.now)) in
    subst (λ (o : Result Placed TermRefusal). Places c.conjoin.new.nodes o c.conjoin.result)
    (sym (c.loop-i.invariant.rest ∙ ap (each_compared c.args.relation c.loop-i.nodes c.loop-i.parts.items) (neighbours_none (seen left) few))) c.conjoin.ensures.makes
