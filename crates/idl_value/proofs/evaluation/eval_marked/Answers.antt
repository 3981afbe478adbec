use Rattle.std.proofs.Common.{rules, ◌∙◌, ◌+◌, length, FitsSigned}
use Rattle.std.proofs.lemmas.Int.{to_z-of_z}
use Rattle.std.specs.Int.{w128}
use Rattle.idl_node.specs.Truth.{point_values}
use Rattle.idl_value.proofs.Evaluating.{first_told, guards_over, value_found}
use Rattle.idl_value.proofs.evaluation.eval_marked.Goals as goal

pub first_marked-requires-clause-guards : goal.first_marked-requires-clause-guards
first_marked-requires-clause-guards c = guards_over (length c.args.values.now + 1) (length c.args.marks.now) c.args.cases.now c.requires.cases

pub returns : goal.returns
returns c = λ nodes truths.
    let values = point_values c.args.values.now in
    let told = first_told nodes values c.args.marks.now c.args.cases.now (length c.args.values.now + 1) truths c.requires.cases in
    let fits : FitsSigned w128 c.unwrap_or.result = search rules in
    rw (to_z-of_z w128 c.unwrap_or.result fits)
    (value_found nodes values c.args.cases.now c.first_marked.result c.unwrap_or.result (c.first_marked.ensures.is ∙ told) c.unwrap_or.ensures)
