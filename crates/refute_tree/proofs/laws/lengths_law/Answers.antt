use Rattle.refute_tree.proofs.Changed.{plain_lengthened, refuted_plain, refutation_lengthened, refutation_shortened}
use Rattle.refute_tree.proofs.laws.lengths_law.Goals as goal

pub returns-clause-plain : goal.returns-clause-plain
returns-clause-plain c = plain_lengthened

pub returns-clause-no_clash : goal.returns-clause-no_clash
returns-clause-no_clash c = refuted_plain

pub returns-clause-lengthened : goal.returns-clause-lengthened
returns-clause-lengthened c = refutation_lengthened

pub returns-clause-shortened : goal.returns-clause-shortened
returns-clause-shortened c = refutation_shortened
