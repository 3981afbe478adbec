use Rattle.smt_script.proofs.Modes.{only_exit_ends, exit_is_carried_out}
use Rattle.smt_script.proofs.laws.exit_law.Goals as goal

pub returns : goal.returns
returns c = record { alone = only_exit_ends; always = exit_is_carried_out }
