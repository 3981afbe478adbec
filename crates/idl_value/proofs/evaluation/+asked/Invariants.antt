use Rattle.std.proofs.Common.{◌≡◌, ◌≤◌, ◌+◌, ◌*◌, length, max}
use Rattle.idl_cases.specs.code.Bounded.{AreLinear}
use Rattle.idl_cases.specs.code.GuardBounds.{AreGuardsBelow}
use Rattle.idl_node.specs.Truth.{point_values, truth, AreTruths, BeginsWith}
use Rattle.idl_value.specs.code.Evaluating.{first_value}
use Rattle.idl_value.specs.code.Looking.{whole_value}
use Rattle.idl_value.proofs.evaluation.+asked.Given as goal

abbrev pub decreases-first_true : goal.decreases-first_true
decreases-first_true l = 4 * length l.cases.now + 3

abbrev pub decreases-first_true_chosen : goal.decreases-first_true_chosen
decreases-first_true_chosen l = 4 * length l.choices.now + 2

abbrev pub decreases-step_true : goal.decreases-step_true
decreases-step_true l = 4 * length l.pending.choices.now + 1

abbrev pub decreases-branch_true : goal.decreases-branch_true
decreases-branch_true l = 4 * (length l.branches.yes.now + length l.branches.no.now)

abbrev pub decreases-sum_true : goal.decreases-sum_true
decreases-sum_true l = 4 * (1 + max (length l.first.now) (length l.second.now))

abbrev pub invariant-first_true_chosen-loop-step : goal.invariant-first_true_chosen-loop-step
invariant-first_true_chosen-loop-step l = record {
  is : whole_value l.pending (first_value (truth l.nodes (point_values l.values)) (point_values l.values) l.pending.choices.now) ≡ first_value (truth l.nodes (point_values l.values)) (point_values l.values) l.choices;
  below : AreGuardsBelow (length l.nodes) l.pending.choices.now;
  fewer : length l.pending.choices.now ≤ length l.choices;
  linear : AreLinear l.choices;
  marks : AreTruths l.nodes (point_values l.values) l.marks.items;
  front : BeginsWith l.marks.items l.fn.marks.items;
}

abbrev pub decreases-first_true_chosen-loop-step : goal.decreases-first_true_chosen-loop-step
decreases-first_true_chosen-loop-step l = length l.pending.choices.now
