use Rattle.std.proofs.Common.{subst}
use Rattle.smt_sexpr.specs.Table.{Means}
use Rattle.smt_sexpr.proofs.Shapes.{one_of, listed}
use Rattle.smt_script.proofs.Arguments.{values_is, some_of}
use Rattle.smt_script.proofs.command.values_command.Goals as goal

pub items-requires : goal.items-requires
items-requires c =
    let p = one_of c.args.sexprs.now c.args.arguments.now c.requires.0 c.requires.1 c.in-len1.len_at_least c.in-len1.len_below in
    (p.first, p.first_means)

pub returns-in-Some : goal.returns-in-Some
returns-in-Some c = λ xs means.
    let t = c.args.sexprs.now in
    let p = one_of t c.args.arguments.now xs means c.in-len1.len_at_least c.in-len1.len_below in
    let l = listed t p.first c.in-Some.items.now (c.in-Some.ensures p.first p.first_means) in
    (l.items, subst (Means t _) l.is p.first_means, values_is t c.in-Some.items.now xs l.items p.first p.is l.is l.means (some_of c.in-Some.items.now c.if-not-is_empty.ensures))
