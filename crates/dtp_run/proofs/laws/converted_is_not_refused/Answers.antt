use Rattle.dtp_run.proofs.Runs.{converted_not_refused}
use Rattle.dtp_run.proofs.laws.converted_is_not_refused.Goals as goal

pub returns : goal.returns
returns c = converted_not_refused c.converted_is_accepted.ensures c.one_judgement.ensures
