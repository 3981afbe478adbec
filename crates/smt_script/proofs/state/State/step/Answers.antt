use Rattle.std.proofs.Common.{ap, ◌∙◌, ◌≡◌, Err}
use Rattle.std.proofs.lemmas.Result.{err_from_is_err_and}
use Rattle.smt_script.specs.Commands.{command_of}
use Rattle.smt_script.specs.States.{after_by}
use Rattle.smt_script.specs.declared.error.Refusal.{Refusal}
use Rattle.smt_script.specs.declared.error.ScriptError.TheVariants.{Refused}
use Rattle.smt_script.proofs.Stepping.{steps_whole, refused_whole, agreed_error}
use Rattle.smt_script.proofs.state.State.step.Goals as goal

pub carry_out-requires : goal.carry_out-requires
carry_out-requires c = (command_of c.requires.0, c.in_ok-request.ensures c.requires.0 c.requires.1)

pub returns-in_err-request-clause-refused : goal.returns-in_err-request-clause-refused
returns-in_err-request-clause-refused c = λ why e s x stands means.
    let q = err_from_is_err_and c.from_residual.result c.from_residual.ensures.1 in
    let from = q.1 in
    let is = q.2 in
    let same : c.in_err-request.field-0.0 ≡ why = cc in
    refused_whole s x why (ap (after_by s) (c.in_err-request.ensures x means) ∙ ap (λ (w : Refusal). Err w) same)

pub returns-in_err-effect-clause-refused : goal.returns-in_err-effect-clause-refused
returns-in_err-effect-clause-refused c = λ why e s x stands means.
    let q = err_from_is_err_and c.from_residual-in_err-effect.result c.from_residual-in_err-effect.ensures.1 in
    let from = q.1 in
    let is = q.2 in
    let same : c.in_err-effect.field-0.0 ≡ Refused why = cc in
    agreed_error s x c.carry_out.new.self c.in_err-effect.field-0.0 why same (c.in_err-effect.ensures.agrees s (command_of x) stands (c.in_ok-request.ensures x means))

pub returns-clause-ok : goal.returns-clause-ok
returns-clause-ok c = λ s x stands means.
    steps_whole s x c.carry_out.new.self c.in_ok-effect.effect (c.in_ok-effect.ensures.agrees s (command_of x) stands (c.in_ok-request.ensures x means))
