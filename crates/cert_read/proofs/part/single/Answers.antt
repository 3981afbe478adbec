use Rattle.smt_sexpr.proofs.Shapes.{one_of}
use Rattle.cert_read.proofs.part.single.Goals as goal

pub index-requires : goal.index-requires
index-requires c =
    let p = one_of c.args.table.now c.args.ids.now c.requires.0 c.requires.1 c.in-len1.len_at_least c.in-len1.len_below in
    (p.first, p.first_means)
