use Rattle.std.proofs.Common.{refl}
use Rattle.best_bound.proofs.questions.decided.Goals as goal

pub returns : goal.returns
returns g c = c.requires.decides c.args.asked.now c.decide.result (record { shown = c.args.asked; shows = refl; says = record { met = c.decide.ensures } })
