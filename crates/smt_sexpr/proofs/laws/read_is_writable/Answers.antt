use Rattle.smt_sexpr.proofs.ReadBack.{spells_writable}
use Rattle.smt_sexpr.proofs.laws.read_is_writable.Goals as goal

pub returns : goal.returns
returns c = λ bytes place x after h. spells_writable bytes x place after h
