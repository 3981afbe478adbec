use Rattle.stn_core.proofs.Ranges.{in_range_of_greatest}
use Rattle.stn_core.proofs.laws.greatest_range_law.Goals as goal

pub returns : goal.returns
returns c = in_range_of_greatest
