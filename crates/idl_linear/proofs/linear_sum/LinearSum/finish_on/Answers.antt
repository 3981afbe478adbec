use Rattle.idl_linear.proofs.linear_sum.LinearSum.finish_on.Goals as goal
use Rattle.idl_linear.proofs.linear_sum.LinearSum.finish_on.Goals.{then-is_negated+in_ok-subtract, else-is_negated+in_ok-add}

pub returns-in_err-subtract-clause-linear : goal.returns-in_err-subtract-clause-linear
returns-in_err-subtract-clause-linear c = c.subtract.ensures.linear

pub returns-in_err-add-clause-linear : goal.returns-in_err-add-clause-linear
returns-in_err-add-clause-linear c = c.add.ensures.linear

pub returns-clause-linear : goal.returns-clause-linear
returns-clause-linear c = elim c.if-is_negated.branch [
  | then-is_negated+in_ok-subtract w ↦ w.subtract.ensures.linear
  | else-is_negated+in_ok-add w ↦ w.add.ensures.linear
]
