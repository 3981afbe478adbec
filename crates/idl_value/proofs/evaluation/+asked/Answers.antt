use Rattle.std.proofs.Common.{rules, refl, ap, sym, subst, arith, ◌∙◌, ◌<◌, ◌+◌, ◌*◌, length, max, Some, to_z, of_z}
use Rattle.std.proofs.lemmas.Grind.{common_steps}
use Rattle.std.specs.Int.{w128}
use Rattle.idl_node.specs.Truth.{point_values, truth}
use Rattle.idl_cases.specs.Guarded.{branched}
use Rattle.idl_cases.specs.code.CaseSums.{added_each}
use Rattle.idl_cases.specs.code.GuardBounds.{AreGuardsBelow}
use Rattle.idl_value.specs.code.Evaluating.{both_values, first_value}
use Rattle.idl_value.specs.code.Looking.{step_value, whole_value}
use Rattle.idl_value.proofs.Evaluating.{moved_is, in_branches, in_sum, in_list, branch_lengths, first_below, second_below, first_guard, second_guard, outside_below, inside_below, below_moved, below_listed, small_cases, small_same, value_read}
use Rattle.idl_value.proofs.Looking.{only_no, only_yes, yes_found, yes_none, no_before, step_found, step_on, step_less, step_signed, step_summed, step_summed_second, whole_starts, within_more}
use Rattle.idl_value.proofs.evaluation.+asked.Goals as goal

pub first_true_chosen-loop-step-init : goal.first_true_chosen-loop-step-init
first_true_chosen-loop-step-init t c =
    record {
      is = whole_starts (truth c.args.nodes.now (point_values c.args.values.now)) c.args.values.now c.new-pending.result c.args.choices.now c.requires.within c.new-pending.ensures.choices c.new-pending.ensures.linear c.new-pending.ensures.whole;
      below = subst (AreGuardsBelow (length c.args.nodes.now)) (sym c.new-pending.ensures.choices) c.requires.guards;
      fewer = (let same = ap length c.new-pending.ensures.choices in omega (arith, same));
      linear = c.new-pending.ensures.linear;
      marks = c.requires.marks;
      front = grind (arith, common_steps);
    }

pub first_true_chosen-loop-step-preserved : goal.first_true_chosen-loop-step-preserved
first_true_chosen-loop-step-preserved t c =
    let on = step_less (truth c.args.nodes.now (point_values c.args.values.now)) (point_values c.args.values.now) c.loop-step.pending (first_value (truth c.args.nodes.now (point_values c.args.values.now)) (point_values c.args.values.now) c.args.choices.now) (length c.args.nodes.now) c.in_ok-step.step c.loop-step.invariant.is c.in_ok-step.ensures.value c.in_ok-step.ensures.less c.in-On.next c.in-On.is in
    let less = on.1 in
    let before = c.loop-step.invariant.fewer in
    record {
      is = step_on (truth c.args.nodes.now (point_values c.args.values.now)) (point_values c.args.values.now) c.loop-step.pending (first_value (truth c.args.nodes.now (point_values c.args.values.now)) (point_values c.args.values.now) c.args.choices.now) (length c.args.nodes.now) c.in_ok-step.step c.loop-step.invariant.is c.in_ok-step.ensures.value c.in_ok-step.ensures.less c.in-On.next c.in-On.is;
      below = on.0;
      fewer = omega (arith, less, before);
      linear = c.loop-step.invariant.linear;
      marks = search rules;
      front = grind (arith, common_steps, c.step_true.ensures.front, c.loop-step.invariant.front);
    }

pub first_true_chosen-loop-step-smaller : goal.first_true_chosen-loop-step-smaller
first_true_chosen-loop-step-smaller t c =
    (step_less (truth c.args.nodes.now (point_values c.args.values.now)) (point_values c.args.values.now) c.loop-step.pending (first_value (truth c.args.nodes.now (point_values c.args.values.now)) (point_values c.args.values.now) c.args.choices.now) (length c.args.nodes.now) c.in_ok-step.step c.loop-step.invariant.is c.in_ok-step.ensures.value c.in_ok-step.ensures.less c.in-On.next c.in-On.is).1

pub first_true_chosen-returns-in-Found-clause-value : goal.first_true_chosen-returns-in-Found-clause-value
first_true_chosen-returns-in-Found-clause-value t c =
    step_found (truth c.args.nodes.now (point_values c.args.values.now)) (point_values c.args.values.now) c.loop-step.pending (first_value (truth c.args.nodes.now (point_values c.args.values.now)) (point_values c.args.values.now) c.args.choices.now) (length c.args.nodes.now) c.in_ok-step.step c.loop-step.invariant.is c.in_ok-step.ensures.value c.in_ok-step.ensures.less c.in-Found.found c.in-Found.is

pub first_true_chosen-returns-in-Found-clause-small : goal.first_true_chosen-returns-in-Found-clause-small
first_true_chosen-returns-in-Found-clause-small t c =
    small_same (first_value (truth c.args.nodes.now (point_values c.args.values.now)) (point_values c.args.values.now) c.args.choices.now) c.in-Found.found
    (step_found (truth c.args.nodes.now (point_values c.args.values.now)) (point_values c.args.values.now) c.loop-step.pending (first_value (truth c.args.nodes.now (point_values c.args.values.now)) (point_values c.args.values.now) c.args.choices.now) (length c.args.nodes.now) c.in_ok-step.step c.loop-step.invariant.is c.in_ok-step.ensures.value c.in_ok-step.ensures.less c.in-Found.found c.in-Found.is)
    (small_cases (truth c.args.nodes.now (point_values c.args.values.now)) c.args.values.now c.requires.within c.args.choices.now c.loop-step.invariant.linear)

-- a step into branches, into a sum, and into a list

pub step_true-branch_true-requires : goal.step_true-branch_true-requires
step_true-branch_true-requires t c =
    let is = in_branches c.args.pending.choices.now c.form-is_negative.result.1 c.form-is_negative.result.0 c.in-Branched.condition c.in-Branched.denial c.in-Branched.yes c.in-Branched.no c.in-Branched.is c.form-is_negative.ensures.form in
    let lengths = branch_lengths (length c.args.nodes.now) c.form-is_negative.result.1 c.args.pending.choices.now c.in-Branched.yes.now c.in-Branched.no.now c.in-Branched.condition c.in-Branched.denial is.0 in
    let smaller : 4 * (length c.in-Branched.yes.now + length c.in-Branched.no.now) < 4 * length c.args.pending.choices.now + 1 = omega (arith, lengths) in
    let condition = first_guard (length c.args.nodes.now) c.form-is_negative.result.1 c.args.pending.choices.now c.in-Branched.yes.now c.in-Branched.no.now c.in-Branched.condition c.in-Branched.denial is.0 c.requires.guards is.1 in
    let denial = second_guard (length c.args.nodes.now) c.form-is_negative.result.1 c.args.pending.choices.now c.in-Branched.yes.now c.in-Branched.no.now c.in-Branched.condition c.in-Branched.denial is.0 c.requires.guards is.2 in
    let yes = first_below (length c.args.nodes.now) c.form-is_negative.result.1 c.args.pending.choices.now c.in-Branched.yes.now c.in-Branched.no.now c.in-Branched.condition c.in-Branched.denial is.0 c.requires.guards in
    let no = second_below (length c.args.nodes.now) c.form-is_negative.result.1 c.args.pending.choices.now c.in-Branched.yes.now c.in-Branched.no.now c.in-Branched.condition c.in-Branched.denial is.0 c.requires.guards in
    let some_yes = is.1 in
    let some_no = is.2 in
    search rules

pub step_true-returns-in_ok-step-in-Branched-clause-value : goal.step_true-returns-in_ok-step-in-Branched-clause-value
step_true-returns-in_ok-step-in-Branched-clause-value t c =
    let is = in_branches c.args.pending.choices.now c.form-is_negative.result.1 c.form-is_negative.result.0 c.in-Branched.condition c.in-Branched.denial c.in-Branched.yes c.in-Branched.no c.in-Branched.is c.form-is_negative.ensures.form in
    step_signed (truth c.args.nodes.now (point_values c.args.values.now)) (point_values c.args.values.now) c.args.pending c.signed-part.result c.form-is_negative.result.1 c.args.pending.choices.now (branched c.in-Branched.condition c.in-Branched.denial c.in-Branched.yes.now c.in-Branched.no.now) _ is.0 c.signed-part.ensures.whole c.in_ok-step-in-Branched.ensures.value

pub step_true-returns-in_ok-step-in-Branched-clause-less : goal.step_true-returns-in_ok-step-in-Branched-clause-less
step_true-returns-in_ok-step-in-Branched-clause-less t c =
    let is = in_branches c.args.pending.choices.now c.form-is_negative.result.1 c.form-is_negative.result.0 c.in-Branched.condition c.in-Branched.denial c.in-Branched.yes c.in-Branched.no c.in-Branched.is c.form-is_negative.ensures.form in
    let lengths = branch_lengths (length c.args.nodes.now) c.form-is_negative.result.1 c.args.pending.choices.now c.in-Branched.yes.now c.in-Branched.no.now c.in-Branched.condition c.in-Branched.denial is.0 in
    within_more (length c.args.nodes.now) (length c.in-Branched.yes.now + length c.in-Branched.no.now) (length c.args.pending.choices.now) c.in_ok-step-in-Branched.step (omega (arith, lengths)) c.in_ok-step-in-Branched.ensures.less

pub step_true-sum_true-requires : goal.step_true-sum_true-requires
step_true-sum_true-requires t c =
    let is = in_sum c.args.pending.choices.now c.form-is_negative.result.1 c.form-is_negative.result.0 c.in-Sum.first c.in-Sum.second c.in-Sum.is c.form-is_negative.ensures.form in
    let first = is.1 in
    let second = is.2 in
    let smaller : 4 * (1 + max (length c.in-Sum.first.now) (length c.in-Sum.second.now)) < 4 * length c.args.pending.choices.now + 1 = omega (arith, first, second) in
    let outside = outside_below (length c.args.nodes.now) c.form-is_negative.result.1 c.args.pending.choices.now c.in-Sum.first.now c.in-Sum.second.now is.0 is.1 c.requires.guards in
    let inside = inside_below (length c.args.nodes.now) c.form-is_negative.result.1 c.args.pending.choices.now c.in-Sum.first.now c.in-Sum.second.now is.0 is.1 c.requires.guards in
    search rules

pub step_true-returns-in_ok-step-in-Sum-clause-value : goal.step_true-returns-in_ok-step-in-Sum-clause-value
step_true-returns-in_ok-step-in-Sum-clause-value t c =
    let is = in_sum c.args.pending.choices.now c.form-is_negative.result.1 c.form-is_negative.result.0 c.in-Sum.first c.in-Sum.second c.in-Sum.is c.form-is_negative.ensures.form in
    step_signed (truth c.args.nodes.now (point_values c.args.values.now)) (point_values c.args.values.now) c.args.pending c.signed-part.result c.form-is_negative.result.1 c.args.pending.choices.now (added_each c.in-Sum.first.now c.in-Sum.second.now) _ is.0 c.signed-part.ensures.whole c.in_ok-step-in-Sum.ensures.value

pub step_true-returns-in_ok-step-in-Sum-clause-less : goal.step_true-returns-in_ok-step-in-Sum-clause-less
step_true-returns-in_ok-step-in-Sum-clause-less t c =
    let is = in_sum c.args.pending.choices.now c.form-is_negative.result.1 c.form-is_negative.result.0 c.in-Sum.first c.in-Sum.second c.in-Sum.is c.form-is_negative.ensures.form in
    let first = is.1 in
    let second = is.2 in
    within_more (length c.args.nodes.now) (1 + max (length c.in-Sum.first.now) (length c.in-Sum.second.now)) (length c.args.pending.choices.now) c.in_ok-step-in-Sum.step (omega (arith, first, second)) c.in_ok-step-in-Sum.ensures.less

pub step_true-first_true_listed-requires-clause-guards : goal.step_true-first_true_listed-requires-clause-guards
step_true-first_true_listed-requires-clause-guards t c =
    let is = in_list c.args.pending.choices.now c.form-is_negative.result.1 c.form-is_negative.result.0 c.in-Listed.listed c.in-Listed.is c.form-is_negative.ensures.form in
    below_listed (length c.args.nodes.now) c.form-is_negative.result.1 c.args.pending.choices.now c.in-Listed.listed.now is c.requires.guards

pub step_true-returns-in_ok-found-in-Listed-clause-value : goal.step_true-returns-in_ok-found-in-Listed-clause-value
step_true-returns-in_ok-found-in-Listed-clause-value t c =
    let is = in_list c.args.pending.choices.now c.form-is_negative.result.1 c.form-is_negative.result.0 c.in-Listed.listed c.in-Listed.is c.form-is_negative.ensures.form in
    step_signed (truth c.args.nodes.now (point_values c.args.values.now)) (point_values c.args.values.now) c.args.pending c.signed-part.result c.form-is_negative.result.1 c.args.pending.choices.now c.in-Listed.listed.now _ is c.signed-part.ensures.whole
    (c.whole.ensures ∙ ap (whole_value c.signed-part.result) c.in_ok-found-in-Listed.ensures.value)

-- into a branch whose guard is true

pub branch_true-returns-then-not-is_yes-clause-value : goal.branch_true-returns-then-not-is_yes-clause-value
branch_true-returns-then-not-is_yes-clause-value t c =
    only_no (truth c.args.nodes.now (point_values c.args.values.now)) (point_values c.args.values.now) c.args.part c.args.branches c.in_ok-is_yes.is_yes c.in_ok-is_no.is_no (sym c.in_ok-is_yes.ensures.truth) (sym c.in_ok-is_no.ensures.truth) (step_value (truth c.args.nodes.now (point_values c.args.values.now)) (point_values c.args.values.now) c.enter.result) c.if-not-is_yes.true (c.enter.ensures.value (truth c.args.nodes.now (point_values c.args.values.now)))

pub branch_true-returns-then-not-is_yes-clause-less : goal.branch_true-returns-then-not-is_yes-clause-less
branch_true-returns-then-not-is_yes-clause-less t c =
    let some = c.requires.some.0 in
    within_more (length c.args.nodes.now) (length c.args.branches.no.now + 1) (length c.args.branches.yes.now + length c.args.branches.no.now) c.enter.result (omega (arith, some)) (c.enter.ensures.less (length c.args.nodes.now) c.requires.no)

pub branch_true-returns-then-not-is_no-clause-value : goal.branch_true-returns-then-not-is_no-clause-value
branch_true-returns-then-not-is_no-clause-value t c =
    only_yes (truth c.args.nodes.now (point_values c.args.values.now)) (point_values c.args.values.now) c.args.part c.args.branches c.in_ok-is_yes.is_yes c.in_ok-is_no.is_no (sym c.in_ok-is_yes.ensures.truth) (sym c.in_ok-is_no.ensures.truth) (step_value (truth c.args.nodes.now (point_values c.args.values.now)) (point_values c.args.values.now) c.enter-then-not-is_no.result) c.if-not-is_no.true (c.enter-then-not-is_no.ensures.value (truth c.args.nodes.now (point_values c.args.values.now)))

pub branch_true-returns-then-not-is_no-clause-less : goal.branch_true-returns-then-not-is_no-clause-less
branch_true-returns-then-not-is_no-clause-less t c =
    let some = c.requires.some.1 in
    within_more (length c.args.nodes.now) (length c.args.branches.yes.now + 1) (length c.args.branches.yes.now + length c.args.branches.no.now) c.enter-then-not-is_no.result (omega (arith, some)) (c.enter-then-not-is_no.ensures.less (length c.args.nodes.now) c.requires.yes)

pub branch_true-returns-then-is_some-clause-value : goal.branch_true-returns-then-is_some-clause-value
branch_true-returns-then-is_some-clause-value t c =
    yes_found (truth c.args.nodes.now (point_values c.args.values.now)) (point_values c.args.values.now) c.args.part c.args.branches c.in_ok-is_yes.is_yes c.in_ok-is_no.is_no (sym c.in_ok-is_yes.ensures.truth) (sym c.in_ok-is_no.ensures.truth) c.whole.result c.in_ok-found.found c.if-not-is_yes.false c.in_ok-found.ensures.value (sym c.is_some.ensures ∙ c.if-is_some.true) c.whole.ensures

pub branch_true-returns-then-len-clause-value : goal.branch_true-returns-then-len-clause-value
branch_true-returns-then-len-clause-value t c =
    yes_none (truth c.args.nodes.now (point_values c.args.values.now)) (point_values c.args.values.now) c.args.part c.args.branches c.in_ok-is_yes.is_yes c.in_ok-is_no.is_no (sym c.in_ok-is_yes.ensures.truth) (sym c.in_ok-is_no.ensures.truth) (step_value (truth c.args.nodes.now (point_values c.args.values.now)) (point_values c.args.values.now) c.enter-then-len.result) c.in_ok-found.found c.if-not-is_yes.false c.in_ok-found.ensures.value (sym c.is_some.ensures ∙ c.if-is_some.false) (c.enter-then-len.ensures.value (truth c.args.nodes.now (point_values c.args.values.now)))

pub branch_true-returns-then-len-clause-less : goal.branch_true-returns-then-len-clause-less
branch_true-returns-then-len-clause-less t c =
    let some = c.requires.some.0 in
    within_more (length c.args.nodes.now) (length c.args.branches.no.now + 1) (length c.args.branches.yes.now + length c.args.branches.no.now) c.enter-then-len.result (omega (arith, some)) (c.enter-then-len.ensures.less (length c.args.nodes.now) c.requires.no)

pub branch_true-returns-clause-value : goal.branch_true-returns-clause-value
branch_true-returns-clause-value t c =
    no_before (truth c.args.nodes.now (point_values c.args.values.now)) (point_values c.args.values.now) c.args.part c.args.branches c.in_ok-is_yes.is_yes c.in_ok-is_no.is_no (sym c.in_ok-is_yes.ensures.truth) (sym c.in_ok-is_no.ensures.truth) (step_value (truth c.args.nodes.now (point_values c.args.values.now)) (point_values c.args.values.now) c.enter-2.result) c.in_ok-found-2.found c.if-not-is_no.false c.in_ok-found-2.ensures.value c.before-2.result c.before-2.ensures.whole (c.enter-2.ensures.value (truth c.args.nodes.now (point_values c.args.values.now)))

pub branch_true-returns-clause-less : goal.branch_true-returns-clause-less
branch_true-returns-clause-less t c =
    let some = c.requires.some.1 in
    within_more (length c.args.nodes.now) (length c.args.branches.yes.now + 1) (length c.args.branches.yes.now + length c.args.branches.no.now) c.enter-2.result (omega (arith, some)) (c.enter-2.ensures.less (length c.args.nodes.now) c.requires.yes)

-- into a sum

pub sum_true-returns-in_ok-outside-clause-value : goal.sum_true-returns-in_ok-outside-clause-value
sum_true-returns-in_ok-outside-clause-value t c =
    step_summed (truth c.args.nodes.now (point_values c.args.values.now)) (point_values c.args.values.now) c.args.part c.args.first.now c.args.second.now c.in_ok-outside.outside (step_value (truth c.args.nodes.now (point_values c.args.values.now)) (point_values c.args.values.now) c.summed.result) c.in_ok-outside.ensures.value (c.summed.ensures.value (truth c.args.nodes.now (point_values c.args.values.now)) (point_values c.args.values.now))

pub sum_true-returns-in_ok-outside-clause-less : goal.sum_true-returns-in_ok-outside-clause-less
sum_true-returns-in_ok-outside-clause-less t c =
    within_more (length c.args.nodes.now) (length c.args.second.now + 1) (1 + max (length c.args.first.now) (length c.args.second.now)) c.summed.result (omega arith) (c.summed.ensures.within (length c.args.nodes.now) c.requires.second)

pub sum_true-returns-in_ok-inside-clause-value : goal.sum_true-returns-in_ok-inside-clause-value
sum_true-returns-in_ok-inside-clause-value t c =
    step_summed_second (truth c.args.nodes.now (point_values c.args.values.now)) (point_values c.args.values.now) c.args.part c.args.first.now c.args.second.now c.in_ok-inside.inside (step_value (truth c.args.nodes.now (point_values c.args.values.now)) (point_values c.args.values.now) c.summed-else-len.result) c.in_ok-inside.ensures.value (c.summed-else-len.ensures.value (truth c.args.nodes.now (point_values c.args.values.now)) (point_values c.args.values.now))

pub sum_true-returns-in_ok-inside-clause-less : goal.sum_true-returns-in_ok-inside-clause-less
sum_true-returns-in_ok-inside-clause-less t c =
    within_more (length c.args.nodes.now) (length c.args.first.now + 1) (1 + max (length c.args.first.now) (length c.args.second.now)) c.summed-else-len.result (omega arith) (c.summed-else-len.ensures.within (length c.args.nodes.now) c.requires.first)

pub first_true-first_true_chosen-requires-in-Moved : goal.first_true-first_true_chosen-requires-in-Moved
first_true-first_true_chosen-requires-in-Moved t c =
    let is = c.in-Moved.ensures in
    let same = is.1 in
    let smaller : 4 * length c.in-Moved.choices.now + 2 < 4 * length c.args.cases.now + 3 = omega (arith, same) in
    let below = below_moved (length c.args.nodes.now) c.args.cases.now c.in-Moved.choices.now c.in-Moved.by.now is.0 c.requires.guards in
    search rules

pub first_true-returns-in_ok-found-in-Moved-clause-value : goal.first_true-returns-in_ok-found-in-Moved-clause-value
first_true-returns-in_ok-found-in-Moved-clause-value t c =
    moved_is (truth c.args.nodes.now (point_values c.args.values.now)) (point_values c.args.values.now) c.args.cases.now c.in-Moved.choices.now c.in-Moved.by.now (to_z w128 (of_z w128 c.eval_linear-moved.result)) c.in_ok-found-in-Moved.found c.both_values.result c.in-Moved.ensures.0 (value_read c.eval_linear-moved.result c.eval_linear-moved.ensures.small ∙ c.eval_linear-moved.ensures.value) c.in_ok-found-in-Moved.ensures.value c.both_values.ensures.is

pub first_true-both_values-requires-clause-sum : goal.first_true-both_values-requires-clause-sum
first_true-both_values-requires-clause-sum t c =
    small_same (first_value (truth c.args.nodes.now (point_values c.args.values.now)) (point_values c.args.values.now) c.args.cases.now) (both_values (Some (to_z w128 (of_z w128 c.eval_linear-moved.result))) c.in_ok-found-in-Moved.found)
    (moved_is (truth c.args.nodes.now (point_values c.args.values.now)) (point_values c.args.values.now) c.args.cases.now c.in-Moved.choices.now c.in-Moved.by.now (to_z w128 (of_z w128 c.eval_linear-moved.result)) c.in_ok-found-in-Moved.found (both_values (Some (to_z w128 (of_z w128 c.eval_linear-moved.result))) c.in_ok-found-in-Moved.found) c.in-Moved.ensures.0 (value_read c.eval_linear-moved.result c.eval_linear-moved.ensures.small ∙ c.eval_linear-moved.ensures.value) c.in_ok-found-in-Moved.ensures.value refl)
    (small_cases (truth c.args.nodes.now (point_values c.args.values.now)) c.args.values.now c.requires.within c.args.cases.now c.in-Moved.ensures.3)
