use Rattle.smt_sexpr.proofs.OneOutcome.{outcomes_one}
use Rattle.smt_sexpr.proofs.laws.one_outcome.Goals as goal

pub returns : goal.returns
returns c = outcomes_one c.one_reading.ensures
