use Rattle.smt_script.proofs.MadeStates.{start_made, step_made, settled_made}
use Rattle.smt_script.proofs.laws.state_law.Goals as goal

pub returns : goal.returns
returns c = record { start = start_made; step = step_made; settled = settled_made }
