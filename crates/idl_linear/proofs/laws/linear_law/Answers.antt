use Rattle.idl_linear.proofs.laws.linear_law.Goals as goal
use Rattle.idl_linear.proofs.Valued.{value-sum, value-less, value-negative, value-number, value-point}
use Rattle.idl_linear.proofs.Comparing.{value-difference}

pub returns-clause-sum : goal.returns-clause-sum
returns-clause-sum c = value-sum

pub returns-clause-less : goal.returns-clause-less
returns-clause-less c = value-less

pub returns-clause-difference : goal.returns-clause-difference
returns-clause-difference c = value-difference

pub returns-clause-negative : goal.returns-clause-negative
returns-clause-negative c = value-negative

pub returns-clause-number : goal.returns-clause-number
returns-clause-number c = value-number

pub returns-clause-point : goal.returns-clause-point
returns-clause-point c = value-point
