use Rattle.smt_sexpr.proofs.Shapes.{two_of}
use Rattle.cert_read.proofs.part.kept.Goals as goal

pub index-requires : goal.index-requires
index-requires c =
    let p = two_of c.args.table.now c.args.ids.now c.requires.0 c.requires.1 c.in-Two-len2.len_at_least c.in-Two-len2.len_below in
    (p.first, p.first_means)

pub index-requires-in-Two-len2 : goal.index-requires-in-Two-len2
index-requires-in-Two-len2 c =
    let p = two_of c.args.table.now c.args.ids.now c.requires.0 c.requires.1 c.in-Two-len2.len_at_least c.in-Two-len2.len_below in
    (p.second, p.second_means)
