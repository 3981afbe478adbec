use Rattle.std.proofs.Common.{refl}
use Rattle.book_judge.proofs.Takes.{not_delivered}
use Rattle.book_judge.proofs.calls.deliver_justified.Goals as goal

pub returns-in-Err-clause-ok : goal.returns-in-Err-clause-ok
returns-in-Err-clause-ok c = (refl, not_delivered c.args.book.now c.args.seat c.args.taken.now c.in-Cube.id c.in-Cube.cube _ _ _ c.args.batch c.args.outcome _ c.in-Cube.is c.requires c.problem.ensures c.lemmas.ensures c.as_slice.ensures c.in_ok-refused.ensures c.in-Err.ensures.fault)
