use Rattle.std.proofs.Common.{rules, ◌+◌, length, FitsSigned}
use Rattle.std.proofs.lemmas.Int.{to_z-of_z}
use Rattle.std.specs.Int.{w128}
use Rattle.idl_node.specs.Truth.{point_values}
use Rattle.idl_value.proofs.Evaluating.{guards_over, value_found}
use Rattle.idl_value.proofs.evaluation.eval_int_on.Goals as goal

pub first_true-requires-clause-guards : goal.first_true-requires-clause-guards
first_true-requires-clause-guards c = guards_over (length c.args.values.now + 1) (length c.args.nodes.now) c.args.cases.now c.requires.cases

pub returns-in-Ok-clause-value : goal.returns-in-Ok-clause-value
returns-in-Ok-clause-value c =
    let fits : FitsSigned w128 c.unwrap_or.result = search rules in
    rw (to_z-of_z w128 c.unwrap_or.result fits)
    (value_found c.args.nodes.now (point_values c.args.values.now) c.args.cases.now c.in-Ok.found c.unwrap_or.result c.in-Ok.ensures.value c.unwrap_or.ensures)
