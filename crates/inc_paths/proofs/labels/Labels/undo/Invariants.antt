use Rattle.std.proofs.Common.{◌≡◌, length, take}
use Rattle.inc_paths.specs.code.Trails.{first_of}
use Rattle.inc_paths.proofs.labels.Labels.undo.Given as goal

abbrev pub invariant-newest : goal.invariant-newest
invariant-newest l = record {
  values : first_of l.start l.self.trail l.self.values ≡ first_of l.start l.fn.self.trail l.fn.self.values;
  trail : take l.start l.self.trail ≡ take l.start l.fn.self.trail;
}

abbrev pub decreases-newest : goal.decreases-newest
decreases-newest l = length l.self.trail
