use Rattle.std.proofs.Common.{◌≤◌, length}
use Rattle.idl_cases.proofs.+drops.Given as goal

abbrev pub decreases-cases::Cases::drop : goal.decreases-cases::Cases::drop
decreases-cases::Cases::drop l = goal.size-cases::Cases::drop l

abbrev pub decreases-choices::Choices::drop : goal.decreases-choices::Choices::drop
decreases-choices::Choices::drop l = goal.size-choices::Choices::drop l

abbrev pub invariant-choices::Choices::drop-loop-tree : goal.invariant-choices::Choices::drop-loop-tree
invariant-choices::Choices::drop-loop-tree l = length l.self ≤ length l.fn.self
