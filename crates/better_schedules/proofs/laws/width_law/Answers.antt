use Rattle.better_schedules.proofs.Widths.{within_width}
use Rattle.better_schedules.proofs.laws.width_law.Goals as goal

pub returns : goal.returns
returns c = within_width
