use Rattle.better_schedules.proofs.Sets.{IsPart}
use Rattle.better_schedules.proofs.set.set_up_to.Given as goal

abbrev pub invariant-loop-place : goal.invariant-loop-place
invariant-loop-place l = record { part : IsPart l.heights l.limit l.place l.set.items }
