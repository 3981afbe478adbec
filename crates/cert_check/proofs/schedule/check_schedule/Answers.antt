use Rattle.cert_check.proofs.FirstFalse.{one_more_holds, not_all_hold, all_hold}
use Rattle.cert_check.proofs.schedule.check_schedule.Goals as goal

pub returns-then-not-clause_holds-clause-holds : goal.returns-then-not-clause_holds-clause-holds
returns-then-not-clause_holds-clause-holds c =
    not_all_hold c.args.schedule.now _ c.args.problem.now.clauses _ _ _ _ _ c.as_slice-in-loop-number.ensures c.as_slice-clause-items.ensures c.loop-number-test.true c.clause-item.is c.as_slice.ensures c.clause_holds.ensures c.if-not-clause_holds.true

pub loop-number-preserved : goal.loop-number-preserved
loop-number-preserved c =
    one_more_holds c.args.schedule.now _ c.args.problem.now.clauses _ _ _ _ _ c.as_slice-in-loop-number.ensures c.as_slice-clause-items.ensures c.loop-number-test.true c.clause-item.is c.as_slice.ensures c.clause_holds.ensures c.loop-number.invariant c.if-not-clause_holds.false

pub returns-clause-holds : goal.returns-clause-holds
returns-clause-holds c = all_hold c.args.schedule.now c.args.problem.now.clauses _ _ c.as_slice-clause-items.ensures c.loop-number.invariant c.loop-number-test.false
