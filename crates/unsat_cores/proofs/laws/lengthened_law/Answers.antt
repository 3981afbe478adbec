use Rattle.unsat_cores.proofs.LengthenedSame.{cites_same}
use Rattle.unsat_cores.proofs.Rooted.{roots_same}
use Rattle.unsat_cores.proofs.laws.lengthened_law.Goals as goal

pub returns : goal.returns
returns c = record { clauses = cites_same; roots = roots_same }
