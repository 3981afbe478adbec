use Rattle.dtp_gen.proofs.Machines.{machine_runs}
use Rattle.dtp_gen.proofs.laws.machine_law.Goals as goal

pub returns : goal.returns
returns c = machine_runs
