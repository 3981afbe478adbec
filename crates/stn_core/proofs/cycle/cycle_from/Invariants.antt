use Rattle.std.proofs.Common.{length, ◌-◌}
use Rattle.stn_core.proofs.Walks.{IsWalked}
use Rattle.stn_core.proofs.cycle.cycle_from.Given as goal

abbrev pub invariant-steps : goal.invariant-steps
invariant-steps l = IsWalked l.labels l.start l.places.items l.walk.items l.point

abbrev pub decreases-steps : goal.decreases-steps
decreases-steps l = length l.labels - length l.walk.items
