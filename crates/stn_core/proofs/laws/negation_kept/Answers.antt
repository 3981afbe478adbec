use Rattle.stn_core.proofs.Consequences.{IsOver-negation_of}
use Rattle.stn_core.proofs.laws.negation_kept.Goals as goal

pub returns : goal.returns
returns c = IsOver-negation_of
