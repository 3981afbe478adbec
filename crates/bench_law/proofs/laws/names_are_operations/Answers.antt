use Rattle.bench_law.proofs.Counted.{counted}
use Rattle.bench_law.proofs.laws.names_are_operations.Goals as goal

pub returns : goal.returns
returns c = counted c.reads_back.ensures c.one_outcome.ensures
