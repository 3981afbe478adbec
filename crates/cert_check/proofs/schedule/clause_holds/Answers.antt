use Rattle.std.proofs.Common.{pos}
use Rattle.stn_core.specs.declared.literal.Literal.{Literal}
use Rattle.cert_check.proofs.FirstFalse.{one_more_fails, none_holds}
use Rattle.cert_check.proofs.schedule.clause_holds.Goals as goal

pub loop-literal-preserved : goal.loop-literal-preserved
loop-literal-preserved c =
    let none : Literal = record { x = 0; y = 0; c = pos 0 } in
    one_more_fails c.args.values.now c.args.clause.now _ none _ c.loop-literal.invariant c.loop-literal-test.true c.holds.ensures c.if-holds.false

pub returns : goal.returns
returns c = none_holds c.args.values.now c.args.clause.now _ c.loop-literal.invariant c.loop-literal-test.false
