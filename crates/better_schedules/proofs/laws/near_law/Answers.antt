use Rattle.stn_core.proofs.Ranges.{near_greatest}
use Rattle.better_schedules.proofs.laws.near_law.Goals as goal

pub returns : goal.returns
returns c = near_greatest
