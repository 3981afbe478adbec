use Rattle.cert_text.specs.Form.{end_sexpr}
use Rattle.cert_text.proofs.EntryKinds.{entry_back, file_entry_back}
use Rattle.cert_text.proofs.Writable.{line_back, header_back, end_writable}
use Rattle.cert_text.proofs.laws.reads_back_entry.Goals as goal

pub returns : goal.returns
returns c = record {
  header = header_back c.reads_back.ensures;
  entry = entry_back c.reads_back.ensures;
  file_entry = file_entry_back c.reads_back.ensures;
  end = line_back c.reads_back.ensures end_sexpr (λ rest. tt) end_writable;
}
