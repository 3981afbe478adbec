use Rattle.std.proofs.Common.{ap}
use Rattle.smt_script.specs.Commands.{minimize_command}
use Rattle.smt_sexpr.proofs.Shapes.{one_of}
use Rattle.smt_script.proofs.command.minimize_command.Goals as goal

pub returns-in-len1 : goal.returns-in-len1
returns-in-len1 c = λ t xs means.
    let p = one_of t c.args.arguments.now xs means c.in-len1.len_at_least c.in-len1.len_below in
    (p.first, p.first_means, ap minimize_command p.is)
