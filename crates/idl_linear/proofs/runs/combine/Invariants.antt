use Rattle.std.proofs.Common.{◌-◌, length}
use Rattle.idl_linear.proofs.Running.{IsCollecting}
use Rattle.idl_linear.proofs.runs.combine.Given as goal

abbrev pub invariant-loop-start : goal.invariant-loop-start
invariant-loop-start l = IsCollecting l.fn.summands.items l.summands.items l.kept l.start

abbrev pub decreases-loop-start : goal.decreases-loop-start
decreases-loop-start l = length l.summands.items - l.start
