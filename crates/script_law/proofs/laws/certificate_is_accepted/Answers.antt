use Rattle.script_law.proofs.Accepted.{accepted}
use Rattle.script_law.proofs.laws.certificate_is_accepted.Goals as goal

pub returns : goal.returns
returns c = accepted c.reads_back.ensures c.one_outcome.ensures c.exit_law.ensures.alone c.certified_is_accepted.ensures
