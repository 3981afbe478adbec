use Rattle.std.proofs.Common.{rules, sym, subst, arith, ◌∙◌, ap, ◌≡◌, ◌+◌, ◌-◌, ◌*◌, ◌/◌, ◌%◌, ◌<◌, ◌≤◌, ℕ, length}
use mathlib.Core.Bool.{not, beq}
use Rattle.idl_cases.specs.code.CaseShapes.{IsForm}
use Rattle.idl_cases.specs.code.CaseSums.{added, case_at, signed_cases}
use Rattle.idl_cases.specs.code.CasePlaces.{place_case, IsOpened}
use Rattle.idl_cases.specs.declared.places.Behind.{Behind}
use Rattle.idl_cases.specs.declared.shape.Form.{Form}
use Rattle.idl_cases.proofs.CaseLaws.{opened_wider}
use Rattle.idl_cases.proofs.Opening.{ok_better, branch_lengths, open_first, open_second, open_sum, open_listed, over_pushed, place_inside, place_outside, sum_lengths}
use Rattle.idl_cases.proofs.places.open.Goals as goal

pub returns-in_ok-guard-in-Branched-clause-opened : goal.returns-in_ok-guard-in-Branched-clause-opened
returns-in_ok-guard-in-Branched-clause-opened c =
    let s = c.args.at.is_negated in
    let n = c.form-is_negative.result.1 in
    let cs = c.args.at.choices.now in
    let yes = c.in-Branched.yes.now in
    let no = c.in-Branched.no.now in
    let is = subst (λ (f : Form). IsForm cs n f) c.in-Branched.is c.form-is_negative.ensures.form in
    let long = branch_lengths c.args.case.now c.guard.new.self s n cs yes no c.in-Branched.condition c.in-Branched.denial is.0 in
    let some = is.2 in
    let lt : c.args.at.place < length yes = omega (arith, c.if-at-count.true, c.len-count.ensures.count) in
    let wider : length yes + 1 ≤ length cs = omega (arith, long, some) in
    let same = open_first c.args.case.now c.guard.new.self s n cs yes no c.in-Branched.condition c.in-Branched.denial is.0 c.args.at.place c.in_ok-guard-in-Branched.ensures.guard lt in
    ok_better c.enter.result (λ (b : Behind). IsOpened (length yes + 1) (added c.guard.new.self (case_at (signed_cases (not (beq s n)) yes) c.args.at.place)) c.enter.new.case b) (λ (b : Behind). IsOpened (length cs) (added c.args.case.now (place_case c.args.at)) c.enter.new.case b)
    (λ b h. opened_wider (length yes + 1) (length cs) _ _ c.enter.new.case b wider same h) c.enter.ensures.opened

pub returns-in_ok-guard-in-Branched-2-clause-opened : goal.returns-in_ok-guard-in-Branched-2-clause-opened
returns-in_ok-guard-in-Branched-2-clause-opened c =
    let s = c.args.at.is_negated in
    let n = c.form-is_negative.result.1 in
    let cs = c.args.at.choices.now in
    let yes = c.in-Branched.yes.now in
    let no = c.in-Branched.no.now in
    let is = subst (λ (f : Form). IsForm cs n f) c.in-Branched.is c.form-is_negative.ensures.form in
    let long = branch_lengths c.args.case.now c.guard-else-at-count.new.self s n cs yes no c.in-Branched.condition c.in-Branched.denial is.0 in
    let some = is.1 in
    let count = c.len-count.ensures.count in
    let within = c.requires.place in
    let place = c.args.at.place - c.len-count.result in
    let split : c.args.at.place ≡ length yes + place = omega (arith, c.if-at-count.false, count) in
    let lt : place < length no = omega (arith, long, within, split) in
    let wider : length no + 1 ≤ length cs = omega (arith, long, some) in
    let same = open_second c.args.case.now c.guard-else-at-count.new.self s n cs yes no c.in-Branched.condition c.in-Branched.denial is.0 c.args.at.place place c.in_ok-guard-in-Branched-2.ensures.guard split lt in
    ok_better c.enter-else-at-count.result (λ (b : Behind). IsOpened (length no + 1) (added c.guard-else-at-count.new.self (case_at (signed_cases (not (beq s n)) no) place)) c.enter-else-at-count.new.case b) (λ (b : Behind). IsOpened (length cs) (added c.args.case.now (place_case c.args.at)) c.enter-else-at-count.new.case b)
    (λ b h. opened_wider (length no + 1) (length cs) _ _ c.enter-else-at-count.new.case b wider same h) c.enter-else-at-count.ensures.opened

pub returns-in_ok-push-in-Listed-clause-opened : goal.returns-in_ok-push-in-Listed-clause-opened
returns-in_ok-push-in-Listed-clause-opened c =
    let s = c.args.at.is_negated in
    let n = c.form-is_negative.result.1 in
    let cs = c.args.at.choices.now in
    let is = subst (λ (f : Form). IsForm cs n f) c.in-Listed.is c.form-is_negative.ensures.form in
    open_listed c.args.case.now c.guard_all.new.self c.push.new.self s n cs c.in-Listed.cases.now c.args.at.place c.index-cases-at.result is c.requires.place c.index-cases-at.is (search rules) (search rules)

pub returns-in_ok-push-in-Listed-clause-over : goal.returns-in_ok-push-in-Listed-clause-over
returns-in_ok-push-in-Listed-clause-over c =
    over_pushed c.guard_all.new.self c.push.new.self (not (beq c.args.at.is_negated c.form-is_negative.result.1)) c.linear.result.now c.in_ok-push-in-Listed.ensures.pushed c.in_ok-push-in-Listed.ensures.over c.in_ok-push-in-Listed.ensures.linear

pub returns-in-Sum-clause-opened : goal.returns-in-Sum-clause-opened
returns-in-Sum-clause-opened c =
    let s = c.args.at.is_negated in
    let n = c.form-is_negative.result.1 in
    let cs = c.args.at.choices.now in
    let xs = c.in-Sum.first.now in
    let ys = c.in-Sum.second.now in
    let place = c.args.at.place in
    let count = c.len-count-in-Sum.result in
    let is = subst (λ (f : Form). IsForm cs n f) c.in-Sum.is c.form-is_negative.ensures.form in
    let counted = c.len-count-in-Sum.ensures.count in
    let many = c.len-count-in-Sum.ensures.many in
    let within = c.requires.place in
    let long = sum_lengths c.args.case.now s n cs xs ys is.0 c.requires.over is.3 is.4 ∙ ap (λ (m : ℕ). length xs * m) (sym counted) in
    let limit : place < length xs * count = omega (arith, within, long) in
    let some : 0 < count = omega (arith, counted, many) in
    let outside : place / count < length xs = place_outside place (length xs) count limit in
    let inside : place % count < length ys = omega (arith, place_inside place count some, counted) in (
      record { within = outside; fewer = is.1 },
      record { within = inside; fewer = is.2 },
      open_sum c.args.case.now s n cs xs ys is.0 c.requires.over is.3 is.4 place count counted (omega (arith, many)) within,
    )
