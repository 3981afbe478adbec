use Rattle.best_bound.proofs.Telling.{told}
use Rattle.best_bound.proofs.answer.best_law.Goals as goal

pub returns : goal.returns
returns c = told c.refutation_law.ensures c.best_law.ensures c.unbounded_law.ensures
