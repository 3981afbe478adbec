use Rattle.std.proofs.Common.{ap, sym, ◌∙◌, get_or, false}
use Rattle.std.specs.List.{list_all}
use Rattle.idl_node.specs.Truth.{point_values}
use Rattle.idl_value.specs.code.Evaluating.{first_value}
use Rattle.idl_value.proofs.Evaluating.{case_passed}
use Rattle.idl_value.proofs.evaluation.first_listed.Goals as goal

pub loop-case-preserved : goal.loop-case-preserved
loop-case-preserved c =
    let values = point_values c.args.values.now in
    case_passed (λ g. get_or c.args.marks.now g false) values c.args.cases.now c.loop-case.case-index c.case-item.result c.loop-case-test.true c.case-item.is (first_value (λ g. get_or c.args.marks.now g false) values c.args.cases.now) c.loop-case.invariant
    (ap (list_all (λ g. get_or c.args.marks.now g false)) (sym c.guards.ensures) ∙ sym c.are_marked.ensures ∙ c.if-are_marked.false)
