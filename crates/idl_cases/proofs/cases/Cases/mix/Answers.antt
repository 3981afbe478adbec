use Rattle.std.proofs.Common.{arith}
use Rattle.idl_cases.proofs.GuardsBounded.{moved_below, plain_below, same_below}
use Rattle.idl_cases.proofs.cases.Cases.mix.Goals as goal

pub returns-in-Plain : goal.returns-in-Plain
returns-in-Plain c = λ count. plain_below count c.in-Plain.linear.now c.args.self.now c.in-Plain.ensures

pub returns-in-Choices : goal.returns-in-Choices
returns-in-Choices c = λ count.
    let is = c.in-Choices.ensures in
    let same = is.1 in
    (same_below count c.in-Choices.choices.now c.args.self.now is.0, omega (arith, same))

pub returns-in-Moved : goal.returns-in-Moved
returns-in-Moved c = λ count.
    let is = c.in-Moved.ensures in
    let same = is.1 in
    (moved_below count c.in-Moved.by.now c.in-Moved.choices.now c.args.self.now is.0, omega (arith, same))
