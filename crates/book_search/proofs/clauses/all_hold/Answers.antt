use Rattle.stn_core.specs.Problem.{ClauseHolds}
use Rattle.book_search.proofs.Holding.{all_more, all_whole}
use Rattle.book_search.proofs.clauses.all_hold.Goals as goal

pub loop-clause-preserved : goal.loop-clause-preserved
loop-clause-preserved c = all_more (ClauseHolds c.args.values.now) c.args.clauses.now c.loop-clause.clause-index c.clause-item.result c.loop-clause-test.true c.clause-item.is c.loop-clause.invariant (c.clause_holds.ensures c.if-not-clause_holds.false)

pub returns : goal.returns
returns c t = all_whole (ClauseHolds c.args.values.now) c.args.clauses.now c.loop-clause.clause-index c.loop-clause-test.false c.loop-clause.invariant
