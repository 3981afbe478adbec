use Rattle.std.proofs.Common.{[], ◌∷◌}
use Rattle.cert_text.specs.declared.entry.FileEntry.{FileEntry}
use Rattle.cert_read.specs.code.Entries.{IsReadTo}
use Rattle.cert_read.proofs.ReadOn.{found}
use Rattle.cert_read.proofs.entries.EntryReader.skip.Goals as goal

pub returns-clause-entry : goal.returns-clause-entry
returns-clause-entry c = λ some. found (λ (e : FileEntry). IsReadTo c.args.self.now c.next.new.self (e ∷ [])) _ c.is_some.result c.in_ok-next.ensures.entry c.is_some.ensures some
