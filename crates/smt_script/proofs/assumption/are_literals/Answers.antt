use Rattle.std.proofs.Common.{arith}
use Rattle.std.proofs.lemmas.List.{drop_all}
use Rattle.smt_sexpr.proofs.Shapes.{next_of}
use Rattle.smt_script.proofs.Literals.{literals_more, literals_not, literals_all}
use Rattle.smt_script.proofs.assumption.are_literals.Goals as goal

pub literal_of-requires : goal.literal_of-requires
literal_of-requires c =
    let t = c.args.sexprs.now in
    let ids = c.args.ids.now in
    let so_far = c.loop-id.invariant.literals c.requires.0 c.requires.1 in
    let n = next_of t ids c.loop-id.id-index so_far.0 (omega arith) so_far.1 in
    (n.first, n.first_means)

pub returns-in-None : goal.returns-in-None
returns-in-None c = λ xs means. literals_not c.args.sexprs.now c.args.ids.now c.loop-id.id-index (omega arith) c.loop-id.invariant.literals (λ x m. c.in-None.ensures x m) xs means

pub loop-id-preserved : goal.loop-id-preserved
loop-id-preserved c = record { literals = literals_more c.args.sexprs.now c.args.ids.now c.loop-id.id-index (omega arith) c.loop-id.invariant.literals (λ x m. (c.in-Some.ensures x m).0) }

pub returns : goal.returns
returns c = λ xs means. literals_all c.args.sexprs.now c.args.ids.now c.loop-id.id-index (omega arith) c.loop-id.invariant.literals (drop_all c.loop-id.id-index c.args.ids.now (omega arith)) xs means
