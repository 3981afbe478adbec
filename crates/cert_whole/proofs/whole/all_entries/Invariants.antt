use Rattle.std.proofs.Common.{◌-◌, length}
use Rattle.cert_read.specs.code.Entries.{IsReadTo}
use Rattle.cert_whole.proofs.whole.all_entries.Given as goal

abbrev pub invariant-entries : goal.invariant-entries
invariant-entries l = IsReadTo l.fn.reader l.reader l.entries.items

abbrev pub decreases-entries : goal.decreases-entries
decreases-entries l = length l.reader.bytes - l.reader.place
