use Rattle.smt_sexpr.proofs.Shapes.{one_of}
use Rattle.smt_script.proofs.command.echo_command.Goals as goal

pub leaf-requires : goal.leaf-requires
leaf-requires c =
    let p = one_of c.args.sexprs.now c.args.arguments.now c.requires.0 c.requires.1 c.in-len1.len_at_least c.in-len1.len_below in
    (p.first, p.first_means)
