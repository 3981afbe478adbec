use Rattle.std.proofs.Common.{ap, ◌∙◌, ◌≡◌, Err}
use Rattle.std.proofs.lemmas.Result.{err_from_is_err_and}
use Rattle.smt_script.specs.Commands.{function_command}
use Rattle.smt_script.proofs.Arguments.{function_is}
use Rattle.smt_sexpr.proofs.Shapes.{three_of}
use Rattle.smt_script.proofs.command.function_command.Goals as goal

pub signature_of-requires-clause-name : goal.signature_of-requires-clause-name
signature_of-requires-clause-name c =
    let p = three_of c.args.sexprs.now c.args.arguments.now c.requires.0 c.requires.1 c.in-len3.len_at_least c.in-len3.len_below in
    (p.first, p.first_means)

pub signature_of-requires-clause-parameters : goal.signature_of-requires-clause-parameters
signature_of-requires-clause-parameters c =
    let p = three_of c.args.sexprs.now c.args.arguments.now c.requires.0 c.requires.1 c.in-len3.len_at_least c.in-len3.len_below in
    (p.second, p.second_means)

pub returns-in_err-signature-in-len3 : goal.returns-in_err-signature-in-len3
returns-in_err-signature-in-len3 c = λ xs means.
    let p = three_of c.args.sexprs.now c.args.arguments.now xs means c.in-len3.len_at_least c.in-len3.len_below in
    let e : function_command xs ≡ Err c.in_err-signature-in-len3.field-0.0 = ap function_command p.is ∙ (c.in_err-signature-in-len3.ensures p.first p.second p.third p.first_means p.second_means p.third_means).0 in
    let q = err_from_is_err_and c.from_residual.result c.from_residual.ensures.1 in
    rw (q.1, q.2) e

pub returns-in_ok-signature-in-len3 : goal.returns-in_ok-signature-in-len3
returns-in_ok-signature-in-len3 c = λ xs means.
    let p = three_of c.args.sexprs.now c.args.arguments.now xs means c.in-len3.len_at_least c.in-len3.len_below in
    let s = c.in_ok-signature-in-len3.ensures p.first p.second p.third p.first_means p.second_means p.third_means in
    (s.0, p.third, s.3, ap function_command p.is ∙ function_is p.first p.second p.third s.0 c.in_ok-signature-in-len3.signature.name.now s.1 s.2)
