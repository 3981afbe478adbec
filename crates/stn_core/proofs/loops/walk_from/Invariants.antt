use Rattle.std.proofs.Common.{All, Contains}
use Rattle.stn_core.proofs.loops.walk_from.Given as goal

abbrev pub invariant-steps : goal.invariant-steps
invariant-steps l = All (Contains l.literals) l.walk.items
