use Rattle.std.proofs.Common.{ap, ◌∙◌, Some}
use Rattle.std.proofs.lemmas.Result.{err_from_is_err_and}
use Rattle.smt_script.specs.code.Shapes.{named_as, shown_name}
use Rattle.smt_script.proofs.Arguments.{annotated_is}
use Rattle.smt_sexpr.proofs.Shapes.{begun}
use Rattle.smt_script.proofs.command.annotated_command.Goals as goal

pub named_in-requires : goal.named_in-requires
named_in-requires c =
    let p = begun c.args.sexprs.now c.args.annotation.now c.requires.0 c.requires.1 c.in-len1-up.len_at_least in
    (p.others, p.means)

pub returns-in_err-name-in-len1-up : goal.returns-in_err-name-in-len1-up
returns-in_err-name-in-len1-up c = λ xs means.
    let p = begun c.args.sexprs.now c.args.annotation.now xs means c.in-len1-up.len_at_least in
    let e = c.in_err-name-in-len1-up.ensures p.others p.means in
    let q = err_from_is_err_and c.from_residual.result c.from_residual.ensures.1 in
    rw (q.1, q.2, e.0) (annotated_is c.args.sexprs.now _ xs p.first p.others _ p.is p.means c.if-not-is_empty.ensures e.1)

pub returns-in-Some : goal.returns-in-Some
returns-in-Some c = λ xs means.
    let p = begun c.args.sexprs.now c.args.annotation.now xs means c.in-len1-up.len_at_least in
    let e = c.in_ok-name-in-len1-up.ensures p.others p.means ∙ ap (λ name. Some (named_as (shown_name name))) c.in-Some.is in
    (p.first, p.first_means, annotated_is c.args.sexprs.now _ xs p.first p.others _ p.is p.means c.if-not-is_empty.ensures e)

pub returns-in-None : goal.returns-in-None
returns-in-None c = λ xs means.
    let p = begun c.args.sexprs.now c.args.annotation.now xs means c.in-len1-up.len_at_least in
    let e = c.in_ok-name-in-len1-up.ensures p.others p.means ∙ ap (λ name. Some (named_as (shown_name name))) c.in-None.is in
    (p.first, p.first_means, annotated_is c.args.sexprs.now _ xs p.first p.others _ p.is p.means c.if-not-is_empty.ensures e)
