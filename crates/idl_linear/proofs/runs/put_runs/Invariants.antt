use Rattle.std.proofs.Common.{◌-◌, length}
use Rattle.idl_linear.proofs.Putting.{IsPutting}
use Rattle.idl_linear.proofs.runs.put_runs.Given as goal

abbrev pub invariant-loop-start : goal.invariant-loop-start
invariant-loop-start l = IsPutting l.is_negated l.summands l.fn.tree.value.summands l.tree.value.summands l.start

abbrev pub decreases-loop-start : goal.decreases-loop-start
decreases-loop-start l = length l.summands - l.start
