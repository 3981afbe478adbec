use Rattle.std.proofs.Common.{ap, ◌∙◌, ◌≡◌, Err}
use Rattle.std.proofs.lemmas.Result.{err_from_is_err_and}
use Rattle.smt_script.specs.Commands.{definition_command}
use Rattle.smt_script.proofs.Arguments.{definition_is}
use Rattle.smt_sexpr.proofs.Shapes.{four_of}
use Rattle.smt_script.proofs.command.definition_command.Goals as goal

pub signature_of-requires-clause-name : goal.signature_of-requires-clause-name
signature_of-requires-clause-name c =
    let p = four_of c.args.sexprs.now c.args.arguments.now c.requires.0 c.requires.1 c.in-len4.len_at_least c.in-len4.len_below in
    (p.first, p.first_means)

pub signature_of-requires-clause-parameters : goal.signature_of-requires-clause-parameters
signature_of-requires-clause-parameters c =
    let p = four_of c.args.sexprs.now c.args.arguments.now c.requires.0 c.requires.1 c.in-len4.len_at_least c.in-len4.len_below in
    (p.second, p.second_means)

pub returns-in_err-signature-in-len4 : goal.returns-in_err-signature-in-len4
returns-in_err-signature-in-len4 c = λ xs means.
    let p = four_of c.args.sexprs.now c.args.arguments.now xs means c.in-len4.len_at_least c.in-len4.len_below in
    let e : definition_command xs ≡ Err c.in_err-signature-in-len4.field-0.0 = ap definition_command p.is ∙ (c.in_err-signature-in-len4.ensures p.first p.second p.third p.first_means p.second_means p.third_means).1 p.fourth in
    let q = err_from_is_err_and c.from_residual.result c.from_residual.ensures.1 in
    rw (q.1, q.2) e

pub returns-in_ok-signature-in-len4 : goal.returns-in_ok-signature-in-len4
returns-in_ok-signature-in-len4 c = λ xs means.
    let p = four_of c.args.sexprs.now c.args.arguments.now xs means c.in-len4.len_at_least c.in-len4.len_below in
    let s = c.in_ok-signature-in-len4.ensures p.first p.second p.third p.first_means p.second_means p.third_means in
    (s.0, p.third, p.fourth, s.3, p.fourth_means, ap definition_command p.is ∙ definition_is p.first p.second p.third p.fourth s.0 c.in_ok-signature-in-len4.signature.name.now s.1 s.2)
