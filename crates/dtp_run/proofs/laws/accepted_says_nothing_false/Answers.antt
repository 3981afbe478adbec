use Rattle.dtp_run.proofs.Runs.{accepted_says}
use Rattle.dtp_run.proofs.laws.accepted_says_nothing_false.Goals as goal

pub returns : goal.returns
returns c = accepted_says c.nothing_false_is_accepted.ensures
