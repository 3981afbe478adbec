use Rattle.script_law.proofs.Decided.{decided}
use Rattle.script_law.proofs.laws.one_question_is_decided.Goals as goal

pub returns : goal.returns
returns c = decided c.reads_back.ensures c.one_outcome.ensures
