use Rattle.std.proofs.Common.{refl}
use Rattle.best_values.specs.Bests.{objective}
use Rattle.better_schedules.proofs.Descending.{improved_leads}
use Rattle.better_schedules.proofs.descent.Descent.improved.Goals as goal

pub returns : goal.returns
returns c = improved_leads c.args.problem.now c.args.x c.args.y c.args.self _ (objective c.args.x c.args.y c.args.schedule) c.requires.descent c.requires.near c.requires.less c.in_ok-incumbent.ensures refl
