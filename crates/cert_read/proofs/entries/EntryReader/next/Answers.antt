use Rattle.std.proofs.Common.{subst}
use Rattle.cert_read.specs.Certificates.{ErrorSays, RefusesBehind}
use Rattle.cert_read.specs.code.Entries.{EntriesFrom}
use Rattle.cert_read.proofs.entries.EntryReader.next.Goals as goal

pub returns-in-Err-clause-refused : goal.returns-in-Err-clause-refused
returns-in-Err-clause-refused c =
    let says : EntriesFrom → Type 0 = λ e. ErrorSays (RefusesBehind e.version e.bytes e.count e.place) c.in-Err.error in
    subst says c.self.view_is c.in-Err.ensures.refused
