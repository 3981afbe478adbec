use Rattle.std.proofs.Common.{◌≡◌, ◌<◌, ◌≤◌, ◌-◌, length}
use Rattle.stn_core.specs.Literal.{literal_at}
use Rattle.inc_paths.specs.code.Trails.{entry_at}
use Rattle.inc_paths.specs.code.Trails.{first_in, older_in}
use Rattle.inc_paths.specs.code.Work.{IsKept, IsLowering, IsScanning, IsAt, room}
use Rattle.inc_paths.proofs.relax.scan.Given as goal

abbrev pub invariant-literals : goal.invariant-literals
invariant-literals l = record {
  start : l.labels.start ≡ l.fn.labels.start;
  kept : IsKept l.fn.labels.start (first_in l.fn.labels) (older_in l.fn.labels) l.labels.trail l.labels.values;
  lowering : IsLowering l.arcs.points l.arcs.literals l.new (first_in l.fn.labels) l.labels;
  place : IsAt l.labels l.place;
  entry : entry_at l.labels.trail l.place ≡ entry_at l.fn.labels.trail l.place;
  scanning : IsScanning l.arcs.literals l.labels (entry_at l.fn.labels.trail l.place).literal.x l.number;
  within : l.number ≤ length l.arcs.literals;
  here : 0 < l.number → (literal_at l.arcs.literals (l.number - 1)).y ≡ (entry_at l.fn.labels.trail l.place).literal.x;
  room : room l.labels ≤ room l.fn.labels;
}

abbrev pub decreases-literals : goal.decreases-literals
decreases-literals l = l.number
