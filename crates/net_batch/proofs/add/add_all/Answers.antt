use Rattle.std.proofs.Common.{refl, rules}
use Rattle.net_batch.proofs.Parts.{cycle-batch}
use Rattle.net_batch.proofs.add.add_all.Goals as goal

pub returns-in-Negative-clause-added : goal.returns-in-Negative-clause-added
returns-in-Negative-clause-added g c = (refl, cycle-batch (g.N.Net.literals_of c.args.net.now) c.args.literals.now c.in-Negative.cycle (search rules))
