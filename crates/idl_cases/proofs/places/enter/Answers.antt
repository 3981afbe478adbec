use Rattle.std.proofs.Common.{arith}
use Rattle.idl_linear.proofs.SumLaws.{over_linear}
use Rattle.idl_cases.proofs.Opening.{enter_moved, over_pushed}
use Rattle.idl_cases.proofs.places.enter.Goals as goal

pub returns-in_ok-push-in-Moved-clause-opened : goal.returns-in_ok-push-in-Moved-clause-opened
returns-in_ok-push-in-Moved-clause-opened c =
    let same = c.in-Moved.ensures.1 in
    let lt = c.requires.place in (
      record { within = omega (arith, same, lt); fewer = omega (arith, same) },
      enter_moved c.args.case.now c.push-in-Moved.new.self c.args.is_negated c.in-Moved.by.now c.args.cases.now c.in-Moved.choices.now c.args.place c.in-Moved.ensures.0 c.in_ok-push-in-Moved.ensures.pushed
          c.in_ok-push-in-Moved.ensures.over (over_linear c.in-Moved.by.now c.in_ok-push-in-Moved.ensures.linear) c.in-Moved.ensures.2 (omega (arith, same, lt)),
    )

pub returns-in_ok-push-in-Moved-clause-over : goal.returns-in_ok-push-in-Moved-clause-over
returns-in_ok-push-in-Moved-clause-over c =
    over_pushed c.args.case.now c.push-in-Moved.new.self c.args.is_negated c.in-Moved.by.now c.in_ok-push-in-Moved.ensures.pushed c.requires.over c.in_ok-push-in-Moved.ensures.linear

pub returns-in_ok-push-in-Plain-clause-over : goal.returns-in_ok-push-in-Plain-clause-over
returns-in_ok-push-in-Plain-clause-over c =
    over_pushed c.args.case.now c.push.new.self c.args.is_negated c.in-Plain.linear.now c.in_ok-push-in-Plain.ensures.pushed c.requires.over c.in_ok-push-in-Plain.ensures.linear
