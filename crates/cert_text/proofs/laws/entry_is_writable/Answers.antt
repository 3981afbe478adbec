use Rattle.cert_text.proofs.EntryKinds.{entry_writable, file_entry_writable}
use Rattle.cert_text.proofs.Writable.{header_writable, end_writable}
use Rattle.cert_text.proofs.laws.entry_is_writable.Goals as goal

pub returns : goal.returns
returns c = record { header = header_writable; entry = entry_writable; file_entry = file_entry_writable; end = end_writable }
