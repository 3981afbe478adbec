use Rattle.dtp_run.proofs.Runs.{not_refused}
use Rattle.dtp_run.proofs.laws.certified_is_not_refused.Goals as goal

pub returns : goal.returns
returns c = not_refused c.certified_is_accepted.ensures c.one_judgement.ensures
