use Rattle.smt_sexpr.proofs.Shapes.{three_of}
use Rattle.cert_read.proofs.part.bound.Goals as goal

pub point-requires : goal.point-requires
point-requires c =
    let p = three_of c.args.table.now c.args.ids.now c.requires.0 c.requires.1 c.in-len3.len_at_least c.in-len3.len_below in
    (p.first, p.first_means)

pub point-requires-in-len3 : goal.point-requires-in-len3
point-requires-in-len3 c =
    let p = three_of c.args.table.now c.args.ids.now c.requires.0 c.requires.1 c.in-len3.len_at_least c.in-len3.len_below in
    (p.second, p.second_means)

pub number-requires : goal.number-requires
number-requires c =
    let p = three_of c.args.table.now c.args.ids.now c.requires.0 c.requires.1 c.in-len3.len_at_least c.in-len3.len_below in
    (p.third, p.third_means)
