use Rattle.cert_check.proofs.FirstFlaws.{first_flaw}
use Rattle.cert_check.proofs.laws.first_law.Goals as goal

pub returns : goal.returns
returns c = first_flaw
