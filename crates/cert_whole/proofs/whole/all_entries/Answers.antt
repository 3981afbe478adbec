use Rattle.std.proofs.Common.{sym, subst, List, [], ◌∷◌}
use Rattle.cert_text.specs.declared.entry.FileEntry.{FileEntry}
use Rattle.cert_read.specs.code.Entries.{IsReadTo}
use Rattle.cert_read.proofs.ReadOn.{read_more}
use Rattle.cert_whole.proofs.Headed.{some_read}
use Rattle.cert_whole.proofs.whole.all_entries.Goals as goal

pub entries-preserved : goal.entries-preserved
entries-preserved c =
    subst (λ (xs : List FileEntry). IsReadTo c.args.reader.now c.next.new.self xs) (sym c.in_ok-push.ensures.items)
    (read_more c.args.reader.now c.entries.reader c.entries.entries.items c.entries.invariant c.next.new.self (c.in-Some.entry ∷ [])
    (some_read c.entries.reader c.next.new.self c.in_ok-entry.field-0 c.in-Some.entry c.in_ok-entry.ensures.entry c.in-Some.is))
