use Rattle.std.proofs.Common.{ap, ◌∙◌}
use Rattle.smt_script.specs.Commands.{assertion_command}
use Rattle.smt_script.proofs.Arguments.{plain_is, annotation_of}
use Rattle.smt_sexpr.proofs.Shapes.{one_of}
use Rattle.smt_script.proofs.command.assertion_command.Goals as goal

pub annotation-requires : goal.annotation-requires
annotation-requires c =
    let p = one_of c.args.sexprs.now c.args.arguments.now c.requires.0 c.requires.1 c.in-len1.len_at_least c.in-len1.len_below in
    (p.first, p.first_means)

pub annotated_command-requires : goal.annotated_command-requires
annotated_command-requires c =
    let p = one_of c.args.sexprs.now c.args.arguments.now c.requires.0 c.requires.1 c.in-len1.len_at_least c.in-len1.len_below in
    let a = annotation_of c.args.sexprs.now p.first c.in-Some.rest (c.in-Some.ensures p.first p.first_means) in
    (a.items, a.means)

pub returns-in-None : goal.returns-in-None
returns-in-None c = λ xs means.
    let p = one_of c.args.sexprs.now c.args.arguments.now xs means c.in-len1.len_at_least c.in-len1.len_below in
    (p.first, p.first_means, ap assertion_command p.is ∙ plain_is c.args.sexprs.now p.first (c.in-None.ensures p.first p.first_means))
