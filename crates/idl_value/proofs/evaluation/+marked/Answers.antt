use Rattle.std.proofs.Common.{rules, refl, ap, sym, subst, arith, ◌∙◌, ◌<◌, ◌+◌, ◌*◌, length, get_or, max, false, Some, to_z, of_z}
use Rattle.std.specs.Int.{w128}
use Rattle.idl_node.specs.Truth.{point_values}
use Rattle.idl_cases.specs.Guarded.{branched}
use Rattle.idl_cases.specs.code.CaseSums.{added_each}
use Rattle.idl_cases.specs.code.GuardBounds.{AreGuardsBelow}
use Rattle.idl_value.specs.code.Evaluating.{both_values, first_value}
use Rattle.idl_value.specs.code.Looking.{step_value, whole_value}
use Rattle.idl_value.proofs.Evaluating.{moved_is, in_branches, in_sum, in_list, branch_lengths, first_below, second_below, first_guard, second_guard, outside_below, inside_below, below_moved, below_listed, small_cases, small_same, value_read}
use Rattle.idl_value.proofs.Looking.{only_no, only_yes, yes_found, yes_none, no_before, step_found, step_on, step_less, step_signed, step_summed, step_summed_second, whole_starts, within_more}
use Rattle.idl_value.proofs.evaluation.+marked.Goals as goal

pub first_chosen-loop-found-init : goal.first_chosen-loop-found-init
first_chosen-loop-found-init t c =
    record {
      is = whole_starts (λ g. get_or c.args.marks.now g false) c.args.values.now c.new-pending.result c.args.choices.now c.requires.within c.new-pending.ensures.choices c.new-pending.ensures.linear c.new-pending.ensures.whole;
      below = subst (AreGuardsBelow (length c.args.marks.now)) (sym c.new-pending.ensures.choices) c.requires.guards;
      fewer = (let same = ap length c.new-pending.ensures.choices in omega (arith, same));
      linear = c.new-pending.ensures.linear;
    }

pub first_chosen-loop-found-preserved : goal.first_chosen-loop-found-preserved
first_chosen-loop-found-preserved t c =
    let on = step_less (λ g. get_or c.args.marks.now g false) (point_values c.args.values.now) c.loop-found.pending (first_value (λ g. get_or c.args.marks.now g false) (point_values c.args.values.now) c.args.choices.now) (length c.args.marks.now) c.step_marked.result c.loop-found.invariant.is c.step_marked.ensures.value c.step_marked.ensures.less c.in-On.next c.in-On.is in
    let less = on.1 in
    let before = c.loop-found.invariant.fewer in
    record {
      is = step_on (λ g. get_or c.args.marks.now g false) (point_values c.args.values.now) c.loop-found.pending (first_value (λ g. get_or c.args.marks.now g false) (point_values c.args.values.now) c.args.choices.now) (length c.args.marks.now) c.step_marked.result c.loop-found.invariant.is c.step_marked.ensures.value c.step_marked.ensures.less c.in-On.next c.in-On.is;
      below = on.0;
      fewer = omega (arith, less, before);
      linear = c.loop-found.invariant.linear;
    }

pub first_chosen-loop-found-smaller : goal.first_chosen-loop-found-smaller
first_chosen-loop-found-smaller t c =
    (step_less (λ g. get_or c.args.marks.now g false) (point_values c.args.values.now) c.loop-found.pending (first_value (λ g. get_or c.args.marks.now g false) (point_values c.args.values.now) c.args.choices.now) (length c.args.marks.now) c.step_marked.result c.loop-found.invariant.is c.step_marked.ensures.value c.step_marked.ensures.less c.in-On.next c.in-On.is).1

pub first_chosen-returns-in-Found-clause-is : goal.first_chosen-returns-in-Found-clause-is
first_chosen-returns-in-Found-clause-is t c =
    step_found (λ g. get_or c.args.marks.now g false) (point_values c.args.values.now) c.loop-found.pending (first_value (λ g. get_or c.args.marks.now g false) (point_values c.args.values.now) c.args.choices.now) (length c.args.marks.now) c.step_marked.result c.loop-found.invariant.is c.step_marked.ensures.value c.step_marked.ensures.less c.in-Found.found c.in-Found.is

pub first_chosen-returns-in-Found-clause-small : goal.first_chosen-returns-in-Found-clause-small
first_chosen-returns-in-Found-clause-small t c =
    small_same (first_value (λ g. get_or c.args.marks.now g false) (point_values c.args.values.now) c.args.choices.now) c.in-Found.found
    (step_found (λ g. get_or c.args.marks.now g false) (point_values c.args.values.now) c.loop-found.pending (first_value (λ g. get_or c.args.marks.now g false) (point_values c.args.values.now) c.args.choices.now) (length c.args.marks.now) c.step_marked.result c.loop-found.invariant.is c.step_marked.ensures.value c.step_marked.ensures.less c.in-Found.found c.in-Found.is)
    (small_cases (λ g. get_or c.args.marks.now g false) c.args.values.now c.requires.within c.args.choices.now c.loop-found.invariant.linear)

-- a step into branches, into a sum, and into a list

pub step_marked-branch_marked-requires : goal.step_marked-branch_marked-requires
step_marked-branch_marked-requires t c =
    let is = in_branches c.args.pending.choices.now c.form-is_negative.result.1 c.form-is_negative.result.0 c.in-Branched.condition c.in-Branched.denial c.in-Branched.yes c.in-Branched.no c.in-Branched.is c.form-is_negative.ensures.form in
    let lengths = branch_lengths (length c.args.marks.now) c.form-is_negative.result.1 c.args.pending.choices.now c.in-Branched.yes.now c.in-Branched.no.now c.in-Branched.condition c.in-Branched.denial is.0 in
    let smaller : 4 * (length c.in-Branched.yes.now + length c.in-Branched.no.now) < 4 * length c.args.pending.choices.now + 1 = omega (arith, lengths) in
    let condition = first_guard (length c.args.marks.now) c.form-is_negative.result.1 c.args.pending.choices.now c.in-Branched.yes.now c.in-Branched.no.now c.in-Branched.condition c.in-Branched.denial is.0 c.requires.guards is.1 in
    let denial = second_guard (length c.args.marks.now) c.form-is_negative.result.1 c.args.pending.choices.now c.in-Branched.yes.now c.in-Branched.no.now c.in-Branched.condition c.in-Branched.denial is.0 c.requires.guards is.2 in
    let yes = first_below (length c.args.marks.now) c.form-is_negative.result.1 c.args.pending.choices.now c.in-Branched.yes.now c.in-Branched.no.now c.in-Branched.condition c.in-Branched.denial is.0 c.requires.guards in
    let no = second_below (length c.args.marks.now) c.form-is_negative.result.1 c.args.pending.choices.now c.in-Branched.yes.now c.in-Branched.no.now c.in-Branched.condition c.in-Branched.denial is.0 c.requires.guards in
    let some_yes = is.1 in
    let some_no = is.2 in
    search rules

pub step_marked-returns-in-Branched-clause-value : goal.step_marked-returns-in-Branched-clause-value
step_marked-returns-in-Branched-clause-value t c =
    let is = in_branches c.args.pending.choices.now c.form-is_negative.result.1 c.form-is_negative.result.0 c.in-Branched.condition c.in-Branched.denial c.in-Branched.yes c.in-Branched.no c.in-Branched.is c.form-is_negative.ensures.form in
    step_signed (λ g. get_or c.args.marks.now g false) (point_values c.args.values.now) c.args.pending c.signed-part.result c.form-is_negative.result.1 c.args.pending.choices.now (branched c.in-Branched.condition c.in-Branched.denial c.in-Branched.yes.now c.in-Branched.no.now) _ is.0 c.signed-part.ensures.whole c.branch_marked.ensures.value

pub step_marked-returns-in-Branched-clause-less : goal.step_marked-returns-in-Branched-clause-less
step_marked-returns-in-Branched-clause-less t c =
    let is = in_branches c.args.pending.choices.now c.form-is_negative.result.1 c.form-is_negative.result.0 c.in-Branched.condition c.in-Branched.denial c.in-Branched.yes c.in-Branched.no c.in-Branched.is c.form-is_negative.ensures.form in
    let lengths = branch_lengths (length c.args.marks.now) c.form-is_negative.result.1 c.args.pending.choices.now c.in-Branched.yes.now c.in-Branched.no.now c.in-Branched.condition c.in-Branched.denial is.0 in
    within_more (length c.args.marks.now) (length c.in-Branched.yes.now + length c.in-Branched.no.now) (length c.args.pending.choices.now) c.branch_marked.result (omega (arith, lengths)) c.branch_marked.ensures.less

pub step_marked-sum_marked-requires : goal.step_marked-sum_marked-requires
step_marked-sum_marked-requires t c =
    let is = in_sum c.args.pending.choices.now c.form-is_negative.result.1 c.form-is_negative.result.0 c.in-Sum.first c.in-Sum.second c.in-Sum.is c.form-is_negative.ensures.form in
    let first = is.1 in
    let second = is.2 in
    let smaller : 4 * (1 + max (length c.in-Sum.first.now) (length c.in-Sum.second.now)) < 4 * length c.args.pending.choices.now + 1 = omega (arith, first, second) in
    let outside = outside_below (length c.args.marks.now) c.form-is_negative.result.1 c.args.pending.choices.now c.in-Sum.first.now c.in-Sum.second.now is.0 is.1 c.requires.guards in
    let inside = inside_below (length c.args.marks.now) c.form-is_negative.result.1 c.args.pending.choices.now c.in-Sum.first.now c.in-Sum.second.now is.0 is.1 c.requires.guards in
    search rules

pub step_marked-returns-in-Sum-clause-value : goal.step_marked-returns-in-Sum-clause-value
step_marked-returns-in-Sum-clause-value t c =
    let is = in_sum c.args.pending.choices.now c.form-is_negative.result.1 c.form-is_negative.result.0 c.in-Sum.first c.in-Sum.second c.in-Sum.is c.form-is_negative.ensures.form in
    step_signed (λ g. get_or c.args.marks.now g false) (point_values c.args.values.now) c.args.pending c.signed-part.result c.form-is_negative.result.1 c.args.pending.choices.now (added_each c.in-Sum.first.now c.in-Sum.second.now) _ is.0 c.signed-part.ensures.whole c.sum_marked.ensures.value

pub step_marked-returns-in-Sum-clause-less : goal.step_marked-returns-in-Sum-clause-less
step_marked-returns-in-Sum-clause-less t c =
    let is = in_sum c.args.pending.choices.now c.form-is_negative.result.1 c.form-is_negative.result.0 c.in-Sum.first c.in-Sum.second c.in-Sum.is c.form-is_negative.ensures.form in
    let first = is.1 in
    let second = is.2 in
    within_more (length c.args.marks.now) (1 + max (length c.in-Sum.first.now) (length c.in-Sum.second.now)) (length c.args.pending.choices.now) c.sum_marked.result (omega (arith, first, second)) c.sum_marked.ensures.less

pub step_marked-first_listed-found-requires-clause-guards : goal.step_marked-first_listed-found-requires-clause-guards
step_marked-first_listed-found-requires-clause-guards t c =
    let is = in_list c.args.pending.choices.now c.form-is_negative.result.1 c.form-is_negative.result.0 c.in-Listed.listed c.in-Listed.is c.form-is_negative.ensures.form in
    below_listed (length c.args.marks.now) c.form-is_negative.result.1 c.args.pending.choices.now c.in-Listed.listed.now is c.requires.guards

pub step_marked-returns-in-Listed-clause-value : goal.step_marked-returns-in-Listed-clause-value
step_marked-returns-in-Listed-clause-value t c =
    let is = in_list c.args.pending.choices.now c.form-is_negative.result.1 c.form-is_negative.result.0 c.in-Listed.listed c.in-Listed.is c.form-is_negative.ensures.form in
    step_signed (λ g. get_or c.args.marks.now g false) (point_values c.args.values.now) c.args.pending c.signed-part.result c.form-is_negative.result.1 c.args.pending.choices.now c.in-Listed.listed.now _ is c.signed-part.ensures.whole
    (c.whole.ensures ∙ ap (whole_value c.signed-part.result) c.first_listed-found.ensures.is)

-- into a branch whose guard is true

pub branch_marked-returns-then-not-is_yes-clause-value : goal.branch_marked-returns-then-not-is_yes-clause-value
branch_marked-returns-then-not-is_yes-clause-value t c =
    only_no (λ g. get_or c.args.marks.now g false) (point_values c.args.values.now) c.args.part c.args.branches (get_or c.args.marks.now c.args.branches.condition false) (get_or c.args.marks.now c.args.branches.denial false) refl refl (step_value (λ g. get_or c.args.marks.now g false) (point_values c.args.values.now) c.enter.result) c.if-not-is_yes.true (c.enter.ensures.value (λ g. get_or c.args.marks.now g false))

pub branch_marked-returns-then-not-is_yes-clause-less : goal.branch_marked-returns-then-not-is_yes-clause-less
branch_marked-returns-then-not-is_yes-clause-less t c =
    let some = c.requires.some.0 in
    within_more (length c.args.marks.now) (length c.args.branches.no.now + 1) (length c.args.branches.yes.now + length c.args.branches.no.now) c.enter.result (omega (arith, some)) (c.enter.ensures.less (length c.args.marks.now) c.requires.no)

pub branch_marked-returns-then-not-is_no-clause-value : goal.branch_marked-returns-then-not-is_no-clause-value
branch_marked-returns-then-not-is_no-clause-value t c =
    only_yes (λ g. get_or c.args.marks.now g false) (point_values c.args.values.now) c.args.part c.args.branches (get_or c.args.marks.now c.args.branches.condition false) (get_or c.args.marks.now c.args.branches.denial false) refl refl (step_value (λ g. get_or c.args.marks.now g false) (point_values c.args.values.now) c.enter-then-not-is_no.result) c.if-not-is_no.true (c.enter-then-not-is_no.ensures.value (λ g. get_or c.args.marks.now g false))

pub branch_marked-returns-then-not-is_no-clause-less : goal.branch_marked-returns-then-not-is_no-clause-less
branch_marked-returns-then-not-is_no-clause-less t c =
    let some = c.requires.some.1 in
    within_more (length c.args.marks.now) (length c.args.branches.yes.now + 1) (length c.args.branches.yes.now + length c.args.branches.no.now) c.enter-then-not-is_no.result (omega (arith, some)) (c.enter-then-not-is_no.ensures.less (length c.args.marks.now) c.requires.yes)

pub branch_marked-returns-then-is_some-clause-value : goal.branch_marked-returns-then-is_some-clause-value
branch_marked-returns-then-is_some-clause-value t c =
    yes_found (λ g. get_or c.args.marks.now g false) (point_values c.args.values.now) c.args.part c.args.branches (get_or c.args.marks.now c.args.branches.condition false) (get_or c.args.marks.now c.args.branches.denial false) refl refl c.whole.result c.first_marked-found.result c.if-not-is_yes.false c.first_marked-found.ensures.is (sym c.is_some.ensures ∙ c.if-is_some.true) c.whole.ensures

pub branch_marked-returns-then-len-clause-value : goal.branch_marked-returns-then-len-clause-value
branch_marked-returns-then-len-clause-value t c =
    yes_none (λ g. get_or c.args.marks.now g false) (point_values c.args.values.now) c.args.part c.args.branches (get_or c.args.marks.now c.args.branches.condition false) (get_or c.args.marks.now c.args.branches.denial false) refl refl (step_value (λ g. get_or c.args.marks.now g false) (point_values c.args.values.now) c.enter-then-len.result) c.first_marked-found.result c.if-not-is_yes.false c.first_marked-found.ensures.is (sym c.is_some.ensures ∙ c.if-is_some.false) (c.enter-then-len.ensures.value (λ g. get_or c.args.marks.now g false))

pub branch_marked-returns-then-len-clause-less : goal.branch_marked-returns-then-len-clause-less
branch_marked-returns-then-len-clause-less t c =
    let some = c.requires.some.0 in
    within_more (length c.args.marks.now) (length c.args.branches.no.now + 1) (length c.args.branches.yes.now + length c.args.branches.no.now) c.enter-then-len.result (omega (arith, some)) (c.enter-then-len.ensures.less (length c.args.marks.now) c.requires.no)

pub branch_marked-returns-clause-value : goal.branch_marked-returns-clause-value
branch_marked-returns-clause-value t c =
    no_before (λ g. get_or c.args.marks.now g false) (point_values c.args.values.now) c.args.part c.args.branches (get_or c.args.marks.now c.args.branches.condition false) (get_or c.args.marks.now c.args.branches.denial false) refl refl (step_value (λ g. get_or c.args.marks.now g false) (point_values c.args.values.now) c.enter-2.result) c.first_marked-found-2.result c.if-not-is_no.false c.first_marked-found-2.ensures.is c.before-2.result c.before-2.ensures.whole (c.enter-2.ensures.value (λ g. get_or c.args.marks.now g false))

pub branch_marked-returns-clause-less : goal.branch_marked-returns-clause-less
branch_marked-returns-clause-less t c =
    let some = c.requires.some.1 in
    within_more (length c.args.marks.now) (length c.args.branches.yes.now + 1) (length c.args.branches.yes.now + length c.args.branches.no.now) c.enter-2.result (omega (arith, some)) (c.enter-2.ensures.less (length c.args.marks.now) c.requires.yes)

-- into a sum

pub sum_marked-returns-then-len-clause-value : goal.sum_marked-returns-then-len-clause-value
sum_marked-returns-then-len-clause-value t c =
    step_summed (λ g. get_or c.args.marks.now g false) (point_values c.args.values.now) c.args.part c.args.first.now c.args.second.now c.first_chosen-outside.result (step_value (λ g. get_or c.args.marks.now g false) (point_values c.args.values.now) c.summed.result) c.first_chosen-outside.ensures.is (c.summed.ensures.value (λ g. get_or c.args.marks.now g false) (point_values c.args.values.now))

pub sum_marked-returns-then-len-clause-less : goal.sum_marked-returns-then-len-clause-less
sum_marked-returns-then-len-clause-less t c =
    within_more (length c.args.marks.now) (length c.args.second.now + 1) (1 + max (length c.args.first.now) (length c.args.second.now)) c.summed.result (omega arith) (c.summed.ensures.within (length c.args.marks.now) c.requires.second)

pub sum_marked-returns-else-len-clause-value : goal.sum_marked-returns-else-len-clause-value
sum_marked-returns-else-len-clause-value t c =
    step_summed_second (λ g. get_or c.args.marks.now g false) (point_values c.args.values.now) c.args.part c.args.first.now c.args.second.now c.first_chosen-inside.result (step_value (λ g. get_or c.args.marks.now g false) (point_values c.args.values.now) c.summed-else-len.result) c.first_chosen-inside.ensures.is (c.summed-else-len.ensures.value (λ g. get_or c.args.marks.now g false) (point_values c.args.values.now))

pub sum_marked-returns-else-len-clause-less : goal.sum_marked-returns-else-len-clause-less
sum_marked-returns-else-len-clause-less t c =
    within_more (length c.args.marks.now) (length c.args.first.now + 1) (1 + max (length c.args.first.now) (length c.args.second.now)) c.summed-else-len.result (omega arith) (c.summed-else-len.ensures.within (length c.args.marks.now) c.requires.first)

pub first_marked-first_chosen-requires-in-Moved : goal.first_marked-first_chosen-requires-in-Moved
first_marked-first_chosen-requires-in-Moved t c =
    let is = c.in-Moved.ensures in
    let same = is.1 in
    let smaller : 4 * length c.in-Moved.choices.now + 2 < 4 * length c.args.cases.now + 3 = omega (arith, same) in
    let below = below_moved (length c.args.marks.now) c.args.cases.now c.in-Moved.choices.now c.in-Moved.by.now is.0 c.requires.guards in
    search rules

pub first_marked-returns-in-Moved-clause-is : goal.first_marked-returns-in-Moved-clause-is
first_marked-returns-in-Moved-clause-is t c =
    moved_is (λ g. get_or c.args.marks.now g false) (point_values c.args.values.now) c.args.cases.now c.in-Moved.choices.now c.in-Moved.by.now (to_z w128 (of_z w128 c.eval_linear-moved.result)) c.first_chosen-in-Moved.result c.both_values.result c.in-Moved.ensures.0 (value_read c.eval_linear-moved.result c.eval_linear-moved.ensures.small ∙ c.eval_linear-moved.ensures.value) c.first_chosen-in-Moved.ensures.is c.both_values.ensures.is

pub first_marked-both_values-requires-clause-sum : goal.first_marked-both_values-requires-clause-sum
first_marked-both_values-requires-clause-sum t c =
    small_same (first_value (λ g. get_or c.args.marks.now g false) (point_values c.args.values.now) c.args.cases.now) (both_values (Some (to_z w128 (of_z w128 c.eval_linear-moved.result))) c.first_chosen-in-Moved.result)
    (moved_is (λ g. get_or c.args.marks.now g false) (point_values c.args.values.now) c.args.cases.now c.in-Moved.choices.now c.in-Moved.by.now (to_z w128 (of_z w128 c.eval_linear-moved.result)) c.first_chosen-in-Moved.result (both_values (Some (to_z w128 (of_z w128 c.eval_linear-moved.result))) c.first_chosen-in-Moved.result) c.in-Moved.ensures.0 (value_read c.eval_linear-moved.result c.eval_linear-moved.ensures.small ∙ c.eval_linear-moved.ensures.value) c.first_chosen-in-Moved.ensures.is refl)
    (small_cases (λ g. get_or c.args.marks.now g false) c.args.values.now c.requires.within c.args.cases.now c.in-Moved.ensures.3)
