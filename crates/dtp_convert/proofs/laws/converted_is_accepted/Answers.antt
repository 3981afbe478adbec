use Rattle.dtp_convert.proofs.Accepting.{accepted}
use Rattle.dtp_convert.proofs.laws.converted_is_accepted.Goals as goal

pub returns : goal.returns
returns c = accepted c.one_outcome.ensures c.one_entry.ensures.header c.reads_on.ensures.within c.exit_law.ensures.alone c.certified_is_accepted.ensures
