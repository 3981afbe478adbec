use Rattle.bench_law.proofs.Decided.{no_error}
use Rattle.bench_law.proofs.laws.script_has_no_error.Goals as goal

pub returns : goal.returns
returns c = no_error c.one_question_is_decided.ensures
