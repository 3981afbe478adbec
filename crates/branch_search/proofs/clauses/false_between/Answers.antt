use Rattle.std.proofs.Common.{arith}
use Rattle.branch_search.proofs.Holding.{hold_more}
use Rattle.branch_search.proofs.clauses.false_between.Goals as goal

pub loop-i-preserved : goal.loop-i-preserved
loop-i-preserved c = record {
  hold = hold_more c.args.values.now c.args.clauses.now c.args.low c.loop-i.i _ (omega (arith, c.requires.high, c.loop-i-test.true)) c.index-clauses-i.is (c.clause_holds.ensures.holds (c.if-not-clause_holds.false)) c.loop-i.invariant.hold;
}
