use Rattle.std.proofs.Common.{◌≡◌}
use Rattle.inc_paths.specs.code.Trails.{first_in, older_in}
use Rattle.inc_paths.specs.code.Work.{IsKept, IsLowering, IsPending, room}
use Rattle.inc_paths.proofs.relax.settle.Given as goal

abbrev pub invariant-queue : goal.invariant-queue
invariant-queue l = record {
  start : l.labels.start ≡ l.fn.labels.start;
  kept : IsKept l.fn.labels.start (first_in l.fn.labels) (older_in l.fn.labels) l.labels.trail l.labels.values;
  lowering : IsLowering l.arcs.points l.arcs.literals l.new (first_in l.fn.labels) l.labels;
  pending : IsPending l.arcs.literals l.labels;
}

abbrev pub decreases-queue : goal.decreases-queue
decreases-queue l = room l.labels
