use Rattle.dtp_run.proofs.Runs.{shop_not_refused}
use Rattle.dtp_run.proofs.laws.shop_is_not_refused.Goals as goal

pub returns : goal.returns
returns c = shop_not_refused c.shop_is_accepted.ensures c.one_judgement.ensures
