use Rattle.std.proofs.Common.{◌≡◌, length, take}
use Rattle.inc_paths.proofs.arcs.Arcs.cut.Given as goal

abbrev pub invariant-newest : goal.invariant-newest
invariant-newest l = record {
  points : l.self.points ≡ l.fn.self.points;
  literals : take l.count l.self.literals ≡ take l.count l.fn.self.literals;
}

abbrev pub decreases-newest : goal.decreases-newest
decreases-newest l = length l.self.literals
