use Rattle.cert_read.proofs.OneCertificate.{certificate_one, one_behind}
use Rattle.cert_read.proofs.laws.one_certificate.Goals as goal

pub returns : goal.returns
returns c = record {
  certificate = certificate_one c.one_outcome.ensures c.one_reading.ensures;
  entries = one_behind c.one_outcome.ensures c.one_reading.ensures;
}
