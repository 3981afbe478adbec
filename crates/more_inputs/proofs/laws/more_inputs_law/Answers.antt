use Rattle.more_inputs.proofs.Appended.{refuted_more, all_refuted_more, refutation_more}
use Rattle.more_inputs.proofs.laws.more_inputs_law.Goals as goal

pub returns-clause-lemma : goal.returns-clause-lemma
returns-clause-lemma c = refuted_more

pub returns-clause-lemmas : goal.returns-clause-lemmas
returns-clause-lemmas c = all_refuted_more

pub returns-clause-refutation : goal.returns-clause-refutation
returns-clause-refutation c = refutation_more
