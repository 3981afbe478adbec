use Rattle.std.proofs.Common.{◌≡◌, ◌≤◌, ◌+◌, ◌*◌, length, max, get_or, false}
use Rattle.idl_cases.specs.code.Bounded.{AreLinear}
use Rattle.idl_cases.specs.code.GuardBounds.{AreGuardsBelow}
use Rattle.idl_node.specs.Truth.{point_values}
use Rattle.idl_value.specs.code.Evaluating.{first_value}
use Rattle.idl_value.specs.code.Looking.{whole_value}
use Rattle.idl_value.proofs.evaluation.+marked.Given as goal

abbrev pub decreases-first_marked : goal.decreases-first_marked
decreases-first_marked l = 4 * length l.cases.now + 3

abbrev pub decreases-first_chosen : goal.decreases-first_chosen
decreases-first_chosen l = 4 * length l.choices.now + 2

abbrev pub decreases-step_marked : goal.decreases-step_marked
decreases-step_marked l = 4 * length l.pending.choices.now + 1

abbrev pub decreases-branch_marked : goal.decreases-branch_marked
decreases-branch_marked l = 4 * (length l.branches.yes.now + length l.branches.no.now)

abbrev pub decreases-sum_marked : goal.decreases-sum_marked
decreases-sum_marked l = 4 * (1 + max (length l.first.now) (length l.second.now))

abbrev pub invariant-first_chosen-loop-found : goal.invariant-first_chosen-loop-found
invariant-first_chosen-loop-found l = record {
  is : whole_value l.pending (first_value (λ g. get_or l.marks g false) (point_values l.values) l.pending.choices.now) ≡ first_value (λ g. get_or l.marks g false) (point_values l.values) l.choices;
  below : AreGuardsBelow (length l.marks) l.pending.choices.now;
  fewer : length l.pending.choices.now ≤ length l.choices;
  linear : AreLinear l.choices;
}

abbrev pub decreases-first_chosen-loop-found : goal.decreases-first_chosen-loop-found
decreases-first_chosen-loop-found l = length l.pending.choices.now
