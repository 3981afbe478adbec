use Rattle.smt_sexpr.proofs.TableGrowth.{means_grows}
use Rattle.smt_sexpr.proofs.laws.meaning_stays.Goals as goal

pub returns : goal.returns
returns c = λ old new id x g m. means_grows old new id x g m
