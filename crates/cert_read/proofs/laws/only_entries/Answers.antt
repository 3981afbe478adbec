use Rattle.cert_read.proofs.EntryKinds.{entry_only}
use Rattle.cert_read.proofs.laws.only_entries.Goals as goal

pub returns : goal.returns
returns c = record {
  fits = λ version x entry w e. (entry_only version x entry w e).0;
  form = λ version x entry w e plain. (entry_only version x entry w e).1 plain;
}
