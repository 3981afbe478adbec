use Rattle.book_core.proofs.Concluding.{by_ending}
use Rattle.book_core.proofs.refutation.refutation_of.Goals as goal

pub returns : goal.returns
returns c = by_ending c.args.problem.now c.in_ok-ending.ending.steps _ c.in_ok-all.all.items c.in_ok-refutation.refutation c.in_ok-ending.ensures.right c.in_ok-all.ensures c.in_ok-refutation.ensures
