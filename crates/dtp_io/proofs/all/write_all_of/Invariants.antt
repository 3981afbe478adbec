use Rattle.std.proofs.Common.{◌≡◌, [], ◌≤◌, ◌-◌, length, take}
use Rattle.std.specs.Io.KnownBytes.{Appends}
use Rattle.dtp_io.proofs.all.write_all_of.Given as goal

abbrev pub invariant-writes : goal.invariant-writes
invariant-writes g l = record {
  added : Appends (g.K.Sink.holds l.initial.sink) (g.K.Sink.holds l.sink) (take l.done l.bytes);
  within : l.done ≤ length l.bytes;
  quiet : g.K.Sink.faults l.sink ≡ g.K.Sink.faults l.initial.sink;
  nothing : l.bytes ≡ [] → l.sink ≡ l.initial.sink;
}

abbrev pub decreases-writes : goal.decreases-writes
decreases-writes g l = length l.bytes - l.done
