use Rattle.std.proofs.Common.{◌∙◌}
use Rattle.smt_script.specs.Commands.{command_of}
use Rattle.smt_script.proofs.Exiting.{exit_said}
use Rattle.smt_script.proofs.exit.is_exit.Goals as goal

pub returns : goal.returns
returns c = λ x means. c.asks_exit.ensures ∙ exit_said c.args.sexprs.now c.request_of.result (command_of x) (c.request_of.ensures x means)
