use Rattle.cert_text.proofs.EntryKinds.{entry_one, line_one, file_entry_one, file_line_one}
use Rattle.cert_text.proofs.OneEntry.{header_one}
use Rattle.cert_text.proofs.laws.one_entry.Goals as goal

pub returns : goal.returns
returns c = record {
  header = header_one;
  sexpr = entry_one;
  line = line_one c.one_value.ensures c.reads_back.ensures;
  file_sexpr = file_entry_one;
  file_line = file_line_one c.one_value.ensures c.reads_back.ensures;
}
