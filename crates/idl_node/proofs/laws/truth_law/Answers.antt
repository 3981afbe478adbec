use Rattle.stn_core.specs.Literal.{IsOver}
use Rattle.idl_node.proofs.Truths.{truth-node, truth-longer}
use Rattle.idl_node.proofs.laws.truth_law.Goals as goal

pub returns-clause-node : goal.returns-clause-node
returns-clause-node c = λ points nodes values table k h. truth-node (IsOver points) nodes values table k h

pub returns-clause-longer : goal.returns-clause-longer
returns-clause-longer c = λ points nodes values table added k h. truth-longer (IsOver points) nodes values table added k h
