use Rattle.std.proofs.Common.{◌≤◌, length}
use Rattle.kept_schedule.proofs.wanting.Wanted.want.Given as goal

abbrev pub invariant-loop-left : goal.invariant-loop-left
invariant-loop-left l = record { within : l.left ≤ length l.nodes }

abbrev pub decreases-loop-left : goal.decreases-loop-left
decreases-loop-left l = l.left
