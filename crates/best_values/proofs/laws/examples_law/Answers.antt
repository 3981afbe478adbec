use Rattle.best_values.proofs.Worked.{best, free, not_kept}
use Rattle.best_values.proofs.laws.examples_law.Goals as goal

pub returns-clause-best : goal.returns-clause-best
returns-clause-best c = best

pub returns-clause-free : goal.returns-clause-free
returns-clause-free c = free

pub returns-clause-not_kept : goal.returns-clause-not_kept
returns-clause-not_kept c = not_kept
