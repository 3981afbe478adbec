use Rattle.carried_lemmas.proofs.Worked.{old_refuted, first_carried}
use Rattle.carried_lemmas.proofs.laws.example_law.Goals as goal

pub returns-clause-refuted : goal.returns-clause-refuted
returns-clause-refuted c = old_refuted

pub returns-clause-carried : goal.returns-clause-carried
returns-clause-carried c = first_carried
