use Rattle.smt_sexpr.proofs.Shapes.{begun}
use Rattle.smt_script.proofs.command.info_command.Goals as goal

pub keyword-requires : goal.keyword-requires
keyword-requires c =
    let p = begun c.args.sexprs.now c.args.arguments.now c.requires.0 c.requires.1 c.in-len1-up.len_at_least in
    (p.first, p.first_means)
