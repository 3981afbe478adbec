use Rattle.smt_sexpr.proofs.TableGrowth.{means_one}
use Rattle.smt_sexpr.proofs.laws.one_meaning.Goals as goal

pub returns : goal.returns
returns c = means_one
