use Rattle.std.proofs.Common.{length}
use Rattle.idl_linear.specs.Values.{linear_value}
use Rattle.idl_node.specs.Truth.{point_values}
use Rattle.idl_value.proofs.Evaluating.{IsAdding}
use Rattle.idl_value.proofs.evaluation.eval_linear.Given as goal

abbrev pub invariant-loop-summand : goal.invariant-loop-summand
invariant-loop-summand l = IsAdding (point_values l.fn.values) l.cursor l.sum (linear_value (point_values l.fn.values) l.linear)

abbrev pub decreases-loop-summand : goal.decreases-loop-summand
decreases-loop-summand l = length l.cursor
