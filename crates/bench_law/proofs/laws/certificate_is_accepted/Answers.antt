use Rattle.bench_law.proofs.Decided.{accepted}
use Rattle.bench_law.proofs.laws.certificate_is_accepted.Goals as goal

pub returns : goal.returns
returns c = accepted c.certificate_is_accepted.ensures
