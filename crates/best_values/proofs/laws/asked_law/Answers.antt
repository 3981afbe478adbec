use Rattle.best_values.proofs.Asked.{asked_solved}
use Rattle.best_values.proofs.laws.asked_law.Goals as goal

pub returns : goal.returns
returns c = asked_solved
