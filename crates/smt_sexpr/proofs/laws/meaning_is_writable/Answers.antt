use Rattle.smt_sexpr.proofs.TableGrowth.{means_writable}
use Rattle.smt_sexpr.proofs.laws.meaning_is_writable.Goals as goal

pub returns : goal.returns
returns c = means_writable
