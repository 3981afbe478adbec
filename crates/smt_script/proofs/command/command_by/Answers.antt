use Rattle.std.proofs.Common.{ap, ◌∙◌}
use Rattle.smt_script.specs.Commands.{pushing, popping, command_by}
use Rattle.smt_script.specs.declared.command_name.CommandName.{CommandName}
use Rattle.smt_script.proofs.command.command_by.Goals as goal

pub returns-in_ok-count-in-Push : goal.returns-in_ok-count-in-Push
returns-in_ok-count-in-Push c = λ xs means.
    let h = c.in_ok-count-in-Push.ensures pushing xs means in
    (h.0, h.1, ap (λ (name : CommandName). command_by name xs) c.in-Push.is ∙ h.2)

pub returns-in_ok-count-in-Pop : goal.returns-in_ok-count-in-Pop
returns-in_ok-count-in-Pop c = λ xs means.
    let h = c.in_ok-count-in-Pop.ensures popping xs means in
    (h.0, h.1, ap (λ (name : CommandName). command_by name xs) c.in-Pop.is ∙ h.2)
