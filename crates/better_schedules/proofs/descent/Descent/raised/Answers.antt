use Rattle.std.proofs.Common.{refl}
use Rattle.better_schedules.proofs.Descending.{raised_leads}
use Rattle.better_schedules.proofs.descent.Descent.raised.Goals as goal

pub returns : goal.returns
returns c = λ problem x y descent near middle lower. raised_leads problem x y c.args.self _ c.args.bound.value descent near middle lower refl refl
