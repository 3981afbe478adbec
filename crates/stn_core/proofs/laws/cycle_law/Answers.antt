use Rattle.stn_core.proofs.Consequences.{no_values}
use Rattle.stn_core.proofs.laws.cycle_law.Goals as goal

pub returns : goal.returns
returns c cycle values = no_values values cycle
