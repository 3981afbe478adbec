use Rattle.std.proofs.Common.{refl, ap, sym, arith, ◌∙◌, ◌+◌, length, Bool, Some, to_z, of_z}
use Rattle.std.specs.Int.{w128}
use Rattle.idl_node.specs.Truth.{point_values}
use Rattle.idl_value.specs.code.Evaluating.{both_values, first_value}
use Rattle.idl_value.specs.code.Looking.{where_true, whole_value}
use Rattle.idl_value.proofs.Evaluating.{below_moved, moved_is, value_read}
use Rattle.idl_value.proofs.Looking.{within_more}
use Rattle.idl_value.proofs.evaluation.enter.Goals as goal

pub returns-in-Moved-clause-value : goal.returns-in-Moved-clause-value
returns-in-Moved-clause-value c = λ test.
    let values = point_values c.args.values.now in
    let more = to_z w128 (of_z w128 c.eval_linear-in-Moved.result) in
    let found = first_value test values c.in-Moved.choices.now in
    let read = value_read c.eval_linear-in-Moved.result c.eval_linear-in-Moved.ensures.small ∙ c.eval_linear-in-Moved.ensures.value in
    c.summed.ensures.value test values
    ∙ ap (whole_value c.args.part)
    (moved_is test values c.args.cases.now c.in-Moved.choices.now c.in-Moved.by.now more found (both_values (Some more) found) c.in-Moved.ensures.0 read refl refl
    ∙ ap (λ (b : Bool). where_true b (first_value test values c.args.cases.now)) (sym c.if-is_true.true))

pub returns-in-Moved-clause-less : goal.returns-in-Moved-clause-less
returns-in-Moved-clause-less c = λ count below.
    let same = c.in-Moved.ensures.1 in
    within_more count (length c.in-Moved.choices.now + 1) (length c.args.cases.now + 1) c.summed.result (omega (arith, same))
    (c.summed.ensures.within count (below_moved count c.args.cases.now c.in-Moved.choices.now c.in-Moved.by.now c.in-Moved.ensures.0 below))
