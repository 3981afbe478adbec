use Rattle.unsat_cores.proofs.Cored.{cored}
use Rattle.unsat_cores.proofs.laws.core_law.Goals as goal

pub returns : goal.returns
returns c = cored c.cited_law.ensures c.sources_law.ensures.follow c.sources_law.ensures.within
