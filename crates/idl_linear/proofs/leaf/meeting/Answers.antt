use Rattle.idl_linear.proofs.Coefficients.{summand}
use Rattle.idl_linear.proofs.Parts.{met_coefficient, met_with, passed_coefficient, passed_with, others_left, no_place}
use Rattle.idl_linear.proofs.leaf.meeting.Goals as goal
use Rattle.idl_linear.proofs.leaf.meeting.Goals.{else-before-items-via-then-before-items+else-items-before, else-before-items-via-else-before-items}

pub returns-then-items-before-clause-coefficient :
    goal.returns-then-items-before-clause-coefficient
returns-then-items-before-clause-coefficient c =
    met_coefficient (summand c.args.point c.args.more) c.args.before c.args.items.now c.requires.rest c.requires.below c.requires.from c.if-before-items.true c.if-items-before.true c.from.result c.from.ensures c.requires.low c.requires.high

pub returns-then-items-before-clause-with : goal.returns-then-items-before-clause-with
returns-then-items-before-clause-with c =
    met_with (summand c.args.point c.args.more) c.args.before c.args.items.now c.requires.rest c.requires.below c.requires.from c.if-before-items.true c.if-items-before.true c.from.result c.from.ensures c.requires.low c.requires.high

pub returns-clause-coefficient : goal.returns-clause-coefficient
returns-clause-coefficient c = elim c.else-before-items.branch [
  | else-before-items-via-then-before-items+else-items-before w ↦
      passed_coefficient (summand c.args.point c.args.more) c.args.before c.args.items.now c.requires.rest c.requires.below c.requires.from
      (others_left (summand c.args.point c.args.more) c.args.before c.args.items.now c.requires.rest c.requires.below c.requires.from w.if-before-items.true w.if-items-before.false) c.requires.low c.requires.high
  | else-before-items-via-else-before-items w ↦
      passed_coefficient (summand c.args.point c.args.more) c.args.before c.args.items.now c.requires.rest c.requires.below c.requires.from
      (no_place (summand c.args.point c.args.more) c.args.before c.args.items.now c.requires.rest c.requires.below c.requires.from w.if-before-items.false) c.requires.low c.requires.high
]

pub returns-clause-with : goal.returns-clause-with
returns-clause-with c = elim c.else-before-items.branch [
  | else-before-items-via-then-before-items+else-items-before w ↦
      passed_with (summand c.args.point c.args.more) c.args.before c.args.items.now c.requires.rest c.requires.below c.requires.from
      (others_left (summand c.args.point c.args.more) c.args.before c.args.items.now c.requires.rest c.requires.below c.requires.from w.if-before-items.true w.if-items-before.false) c.requires.low c.requires.high
  | else-before-items-via-else-before-items w ↦
      passed_with (summand c.args.point c.args.more) c.args.before c.args.items.now c.requires.rest c.requires.below c.requires.from
      (no_place (summand c.args.point c.args.more) c.args.before c.args.items.now c.requires.rest c.requires.below c.requires.from w.if-before-items.false) c.requires.low c.requires.high
]
