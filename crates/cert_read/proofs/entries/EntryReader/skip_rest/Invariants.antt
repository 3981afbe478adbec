use Rattle.std.proofs.Common.{◌-◌, length}
use Rattle.cert_read.proofs.ReadOn.{IsReadOn}
use Rattle.cert_read.proofs.entries.EntryReader.skip_rest.Given as goal

abbrev pub invariant-loop : goal.invariant-loop
invariant-loop l = IsReadOn l.fn.self l.self

abbrev pub decreases-loop : goal.decreases-loop
decreases-loop l = length l.self.bytes - l.self.place
