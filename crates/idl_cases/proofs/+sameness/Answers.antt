use Rattle.std.proofs.Common.{rules, arith, subst, ◌≡◌, ◌<◌, ◌+◌, ◌*◌, length, max}
use Rattle.idl_cases.specs.code.CaseShapes.{IsForm}
use Rattle.idl_cases.specs.declared.shape.Form.{Form}
use Rattle.idl_cases.proofs.CasesLeft.{branches_count, compared_part, compared_whole}
use Rattle.idl_cases.proofs.+sameness.Goals as goal

pub cases::Cases::is_same-returns-in-Whole : goal.cases::Cases::is_same-returns-in-Whole
cases::Cases::is_same-returns-in-Whole t c =
    compared_whole (c.args.self.now ≡ c.args.other.now) (length c.args.self.now + 1) c.compare.result c.in-Whole.is_same c.in-Whole.is c.compare.ensures

pub cases::Cases::is_same-is_same-requires : goal.cases::Cases::is_same-is_same-requires
cases::Cases::is_same-is_same-requires t c =
    let fewer = (compared_part (c.args.self.now ≡ c.args.other.now) (length c.args.self.now + 1) c.compare.result c.in-Part.choices c.in-Part.beside c.in-Part.is c.compare.ensures).1 in
    let smaller : 4 * length c.in-Part.choices.now + 2 < 4 * length c.args.self.now + 3 = omega (arith, fewer) in
    search rules

pub cases::Cases::is_same-returns-in-Part : goal.cases::Cases::is_same-returns-in-Part
cases::Cases::is_same-returns-in-Part t c =
    let part = compared_part (c.args.self.now ≡ c.args.other.now) (length c.args.self.now + 1) c.compare.result c.in-Part.choices c.in-Part.beside c.in-Part.is c.compare.ensures in
    λ same. part.0 (c.is_same.ensures same)

-- step by step

pub choices::Choices::is_same-loop-is_same-preserved : goal.choices::Choices::is_same-loop-is_same-preserved
choices::Choices::is_same-loop-is_same-preserved t c =
    let part = compared_part (c.loop-is_same.choices.now ≡ c.loop-is_same.beside.now) (length c.loop-is_same.choices.now) c.compare-step.result c.in-Part.part c.in-Part.part_beside c.in-Part.is c.compare-step.ensures in
    let less = part.1 in
    record { same = λ e. c.loop-is_same.invariant.same (part.0 e); few = omega (arith, less, c.loop-is_same.invariant.few) }

pub choices::Choices::is_same-loop-is_same-smaller : goal.choices::Choices::is_same-loop-is_same-smaller
choices::Choices::is_same-loop-is_same-smaller t c =
    (compared_part (c.loop-is_same.choices.now ≡ c.loop-is_same.beside.now) (length c.loop-is_same.choices.now) c.compare-step.result c.in-Part.part c.in-Part.part_beside c.in-Part.is c.compare-step.ensures).1

pub choices::Choices::is_same-returns-in-Whole : goal.choices::Choices::is_same-returns-in-Whole
choices::Choices::is_same-returns-in-Whole t c =
    λ same. c.loop-is_same.invariant.same (compared_whole (c.loop-is_same.choices.now ≡ c.loop-is_same.beside.now) (length c.loop-is_same.choices.now) c.compare-step.result c.in-Whole.is_same c.in-Whole.is c.compare-step.ensures same)

-- a step into branches, into a sum, and into a list

pub choices::Choices::compare-compare_branches-requires : goal.choices::Choices::compare-compare_branches-requires
choices::Choices::compare-compare_branches-requires t c =
    let is = subst (λ (f : Form). IsForm c.args.self.now c.form-is_negated.result.1 f) c.in-Branched.is c.form-is_negated.ensures.form in
    let count = branches_count c.form-is_negated.result.1 c.in-Branched.condition c.in-Branched.denial c.args.self.now c.in-Branched.yes.now c.in-Branched.no.now is.0 in
    let smaller : 4 * (length c.in-Branched.yes.now + length c.in-Branched.no.now) < 4 * length c.args.self.now + 1 = omega (arith, count) in
    let some_yes = is.1 in
    let some_no = is.2 in
    search rules

pub choices::Choices::compare-compare_summands-requires : goal.choices::Choices::compare-compare_summands-requires
choices::Choices::compare-compare_summands-requires t c =
    let is = subst (λ (f : Form). IsForm c.args.self.now c.form-is_negated.result.1 f) c.in-Sum.is c.form-is_negated.ensures.form in
    let first = is.1 in
    let second = is.2 in
    let smaller : 4 * (1 + max (length c.in-Sum.first.now) (length c.in-Sum.second.now)) < 4 * length c.args.self.now + 1 = omega (arith, first, second) in
    search rules
