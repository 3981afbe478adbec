use Rattle.std.proofs.Common.{rules, arith, subst, ◌<◌, ◌+◌, ◌*◌, length}
use Rattle.idl_cases.specs.code.CaseShapes.{IsForm}
use Rattle.idl_cases.specs.code.GuardBounds.{AreGuardsBelow}
use Rattle.idl_cases.specs.declared.shape.Form.{Form}
use Rattle.idl_cases.proofs.CasesLeft.{branches_count, mixed_more, mixed_part, mixed_whole, some_more}
use Rattle.idl_cases.proofs.GuardsBounded.{branched_below, listed_below, sum_below}
use Rattle.idl_cases.proofs.+fingerprints.Goals as goal

pub cases::Cases::fingerprint-returns-in-Whole : goal.cases::Cases::fingerprint-returns-in-Whole
cases::Cases::fingerprint-returns-in-Whole t c =
    mixed_whole (AreGuardsBelow c.args.count c.args.self.now) (length c.args.self.now + 1) c.args.count c.mix.result c.in-Whole.all c.in-Whole.is (c.mix.ensures c.args.count)

pub cases::Cases::fingerprint-fingerprint-requires : goal.cases::Cases::fingerprint-fingerprint-requires
cases::Cases::fingerprint-fingerprint-requires t c =
    let fewer = (mixed_part (AreGuardsBelow c.args.count c.args.self.now) (length c.args.self.now + 1) c.args.count c.mix.result c.in-Part.all c.in-Part.choices c.in-Part.is (c.mix.ensures c.args.count)).1 in
    let smaller : 3 * length c.in-Part.choices.now + 1 < 3 * length c.args.self.now + 2 = omega (arith, fewer) in
    search rules

pub cases::Cases::fingerprint-returns-in-Part : goal.cases::Cases::fingerprint-returns-in-Part
cases::Cases::fingerprint-returns-in-Part t c =
    let part = mixed_part (AreGuardsBelow c.args.count c.args.self.now) (length c.args.self.now + 1) c.args.count c.mix.result c.in-Part.all c.in-Part.choices c.in-Part.is (c.mix.ensures c.args.count) in
    some_more (AreGuardsBelow c.args.count c.in-Part.choices.now) (AreGuardsBelow c.args.count c.args.self.now) c.fingerprint.result part.0 c.fingerprint.ensures

-- step by step

pub choices::Choices::fingerprint-loop-step-preserved : goal.choices::Choices::fingerprint-loop-step-preserved
choices::Choices::fingerprint-loop-step-preserved t c =
    let part = mixed_part (AreGuardsBelow c.args.count c.loop-step.choices.now) (length c.loop-step.choices.now) c.args.count c.in_ok-step.step c.in-Part.all c.in-Part.part c.in-Part.is c.in_ok-step.ensures in
    let less = part.1 in
    record { below = λ h. c.loop-step.invariant.below (part.0 h); few = omega (arith, less, c.loop-step.invariant.few) }

pub choices::Choices::fingerprint-loop-step-smaller : goal.choices::Choices::fingerprint-loop-step-smaller
choices::Choices::fingerprint-loop-step-smaller t c =
    (mixed_part (AreGuardsBelow c.args.count c.loop-step.choices.now) (length c.loop-step.choices.now) c.args.count c.in_ok-step.step c.in-Part.all c.in-Part.part c.in-Part.is c.in_ok-step.ensures).1

pub choices::Choices::fingerprint-returns-in-Whole : goal.choices::Choices::fingerprint-returns-in-Whole
choices::Choices::fingerprint-returns-in-Whole t c =
    c.loop-step.invariant.below
    (mixed_whole (AreGuardsBelow c.args.count c.loop-step.choices.now) (length c.loop-step.choices.now) c.args.count c.in_ok-step.step c.in-Whole.all c.in-Whole.is c.in_ok-step.ensures)

-- a step into branches, into a sum, and into a list

pub choices::Choices::mix-fingerprint-requires : goal.choices::Choices::mix-fingerprint-requires
choices::Choices::mix-fingerprint-requires t c =
    let s = c.form-is_negated.result.1 in
    let is = subst (λ (f : Form). IsForm c.args.self.now s f) c.in-Branched.is c.form-is_negated.ensures.form in
    let count = branches_count s c.in-Branched.condition c.in-Branched.denial c.args.self.now c.in-Branched.yes.now c.in-Branched.no.now is.0 in
    let some = is.2 in
    let smaller : 3 * length c.in-Branched.yes.now + 2 < 3 * length c.args.self.now = omega (arith, count, some) in
    search rules

pub choices::Choices::mix-fingerprint-requires-else-len : goal.choices::Choices::mix-fingerprint-requires-else-len
choices::Choices::mix-fingerprint-requires-else-len t c =
    let s = c.form-is_negated.result.1 in
    let is = subst (λ (f : Form). IsForm c.args.self.now s f) c.in-Branched.is c.form-is_negated.ensures.form in
    let count = branches_count s c.in-Branched.condition c.in-Branched.denial c.args.self.now c.in-Branched.yes.now c.in-Branched.no.now is.0 in
    let some = is.1 in
    let smaller : 3 * length c.in-Branched.no.now + 2 < 3 * length c.args.self.now = omega (arith, count, some) in
    search rules

pub choices::Choices::mix-returns-in_ok-of_yes-in-Branched : goal.choices::Choices::mix-returns-in_ok-of_yes-in-Branched
choices::Choices::mix-returns-in_ok-of_yes-in-Branched t c =
    let s = c.form-is_negated.result.1 in
    let is = subst (λ (f : Form). IsForm c.args.self.now s f) c.in-Branched.is c.form-is_negated.ensures.form in
    let count = branches_count s c.in-Branched.condition c.in-Branched.denial c.args.self.now c.in-Branched.yes.now c.in-Branched.no.now is.0 in
    let some = is.1 in
    mixed_more (AreGuardsBelow c.args.count c.in-Branched.no.now) (AreGuardsBelow c.args.count c.args.self.now) (length c.in-Branched.no.now + 1) (length c.args.self.now) c.args.count c.mix.result (omega (arith, count, some))
    (branched_below c.args.count c.in-Branched.condition c.in-Branched.denial s c.args.self.now c.in-Branched.yes.now c.in-Branched.no.now is.0 (omega (arith, c.if-condition-count.false)) (omega (arith, c.if-denial-count.false)) c.in_ok-of_yes-in-Branched.ensures)
    (c.mix.ensures c.args.count)

pub choices::Choices::mix-returns-in_ok-of_no-in-Branched : goal.choices::Choices::mix-returns-in_ok-of_no-in-Branched
choices::Choices::mix-returns-in_ok-of_no-in-Branched t c =
    let s = c.form-is_negated.result.1 in
    let is = subst (λ (f : Form). IsForm c.args.self.now s f) c.in-Branched.is c.form-is_negated.ensures.form in
    let count = branches_count s c.in-Branched.condition c.in-Branched.denial c.args.self.now c.in-Branched.yes.now c.in-Branched.no.now is.0 in
    let some = is.2 in
    mixed_more (AreGuardsBelow c.args.count c.in-Branched.yes.now) (AreGuardsBelow c.args.count c.args.self.now) (length c.in-Branched.yes.now + 1) (length c.args.self.now) c.args.count c.mix-else-len.result (omega (arith, count, some))
    (λ below. branched_below c.args.count c.in-Branched.condition c.in-Branched.denial s c.args.self.now c.in-Branched.yes.now c.in-Branched.no.now is.0 (omega (arith, c.if-condition-count.false)) (omega (arith, c.if-denial-count.false)) below c.in_ok-of_no-in-Branched.ensures)
    (c.mix-else-len.ensures c.args.count)

pub choices::Choices::mix-fingerprint-requires-then-len-2 : goal.choices::Choices::mix-fingerprint-requires-then-len-2
choices::Choices::mix-fingerprint-requires-then-len-2 t c =
    let fewer = (subst (λ (f : Form). IsForm c.args.self.now c.form-is_negated.result.1 f) c.in-Sum.is c.form-is_negated.ensures.form).1 in
    let smaller : 3 * length c.in-Sum.first.now + 1 < 3 * length c.args.self.now = omega (arith, fewer) in
    search rules

pub choices::Choices::mix-fingerprint-requires-else-len-2 : goal.choices::Choices::mix-fingerprint-requires-else-len-2
choices::Choices::mix-fingerprint-requires-else-len-2 t c =
    let fewer = (subst (λ (f : Form). IsForm c.args.self.now c.form-is_negated.result.1 f) c.in-Sum.is c.form-is_negated.ensures.form).2 in
    let smaller : 3 * length c.in-Sum.second.now + 1 < 3 * length c.args.self.now = omega (arith, fewer) in
    search rules

pub choices::Choices::mix-returns-in_ok-behind_first-in-Sum : goal.choices::Choices::mix-returns-in_ok-behind_first-in-Sum
choices::Choices::mix-returns-in_ok-behind_first-in-Sum t c =
    let s = c.form-is_negated.result.1 in
    let is = subst (λ (f : Form). IsForm c.args.self.now s f) c.in-Sum.is c.form-is_negated.ensures.form in
    (sum_below c.args.count s c.args.self.now c.in-Sum.first.now c.in-Sum.second.now is.0 c.in_ok-behind_first-in-Sum.ensures, is.2)

pub choices::Choices::mix-returns-in_ok-behind_second-in-Sum : goal.choices::Choices::mix-returns-in_ok-behind_second-in-Sum
choices::Choices::mix-returns-in_ok-behind_second-in-Sum t c =
    let s = c.form-is_negated.result.1 in
    let is = subst (λ (f : Form). IsForm c.args.self.now s f) c.in-Sum.is c.form-is_negated.ensures.form in
    (λ below. sum_below c.args.count s c.args.self.now c.in-Sum.first.now c.in-Sum.second.now is.0 below c.in_ok-behind_second-in-Sum.ensures, is.1)

pub choices::Choices::mix-returns-in_ok-listed-in-Listed : goal.choices::Choices::mix-returns-in_ok-listed-in-Listed
choices::Choices::mix-returns-in_ok-listed-in-Listed t c =
    let s = c.form-is_negated.result.1 in
    let is = subst (λ (f : Form). IsForm c.args.self.now s f) c.in-Listed.is c.form-is_negated.ensures.form in
    listed_below c.args.count s c.args.self.now c.in-Listed.cases.now is c.in_ok-listed-in-Listed.ensures
