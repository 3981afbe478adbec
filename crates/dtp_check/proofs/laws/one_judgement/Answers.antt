use Rattle.dtp_check.proofs.Reading.{judgement_is_one}
use Rattle.dtp_check.proofs.laws.one_judgement.Goals as goal

pub returns : goal.returns
returns c = judgement_is_one c.one_outcome.ensures c.one_certificate.ensures.certificate c.one_certificate.ensures.entries c.one_entry.ensures.header
