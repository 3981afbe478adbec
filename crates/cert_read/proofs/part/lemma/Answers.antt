use Rattle.smt_sexpr.proofs.Shapes.{begun}
use Rattle.cert_read.proofs.LemmaForms.{lemma_is}
use Rattle.cert_read.proofs.part.lemma.Goals as goal

pub clause-requires : goal.clause-requires
clause-requires c =
    let p = begun c.args.table.now c.args.ids.now c.requires.0 c.requires.1 c.in-len1-up.len_at_least in
    (p.first, p.first_means)

pub read_steps-requires : goal.read_steps-requires
read_steps-requires c =
    let p = begun c.args.table.now c.args.ids.now c.requires.0 c.requires.1 c.in-len1-up.len_at_least in
    (p.others, p.means)

pub returns-in_ok-steps-in-len1-up-clause-ok : goal.returns-in_ok-steps-in-len1-up-clause-ok
returns-in_ok-steps-in-len1-up-clause-ok c = λ xs means.
    let p = begun c.args.table.now c.args.ids.now xs means c.in-len1-up.len_at_least in
    lemma_is c.args.version xs p.others p.first c.in_ok-clause-in-len1-up.clause c.in_ok-steps-in-len1-up.steps p.is (c.in_ok-clause-in-len1-up.ensures.ok p.first p.first_means) (c.in_ok-steps-in-len1-up.ensures.ok p.others p.means)
