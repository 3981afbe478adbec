use Rattle.carried_lemmas.proofs.CarriedSound.{carried_refuted, carried_over}
use Rattle.carried_lemmas.proofs.laws.carried_law.Goals as goal

pub returns-clause-refuted : goal.returns-clause-refuted
returns-clause-refuted c = carried_refuted

pub returns-clause-over : goal.returns-clause-over
returns-clause-over c = carried_over
