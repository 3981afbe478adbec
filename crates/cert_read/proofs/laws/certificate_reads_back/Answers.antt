use Rattle.cert_read.proofs.EntryKinds.{entry_back}
use Rattle.cert_read.proofs.WrittenBack.{certificate_back}
use Rattle.cert_read.proofs.laws.certificate_reads_back.Goals as goal

pub returns : goal.returns
returns c = record {
  text = certificate_back c.reads_back_entry.ensures.file_entry c.reads_back_entry.ensures.end c.reads_back_entry.ensures.header;
  entry = entry_back;
}
