use Rattle.stn_core.proofs.Consequences.{one_greatest}
use Rattle.stn_core.proofs.laws.one_greatest_law.Goals as goal

pub returns : goal.returns
returns c = one_greatest
