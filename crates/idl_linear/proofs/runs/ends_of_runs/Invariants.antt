use Rattle.std.proofs.Common.{◌-◌, length}
use Rattle.idl_linear.proofs.EndingRuns.{IsEnding}
use Rattle.idl_linear.proofs.runs.ends_of_runs.Given as goal

abbrev pub invariant-loop-start : goal.invariant-loop-start
invariant-loop-start l = IsEnding l.summands l.ends l.start

abbrev pub decreases-loop-start : goal.decreases-loop-start
decreases-loop-start l = length l.summands - l.start
