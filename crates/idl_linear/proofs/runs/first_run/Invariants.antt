use Rattle.std.proofs.Common.{◌-◌, length}
use Rattle.idl_linear.proofs.Running.{IsRun}
use Rattle.idl_linear.proofs.runs.first_run.Given as goal

abbrev pub invariant-loop-len : goal.invariant-loop-len
invariant-loop-len l = IsRun l.summands l.point l.len l.sum

abbrev pub decreases-loop-len : goal.decreases-loop-len
decreases-loop-len l = length l.summands - l.len
