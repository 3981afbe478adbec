use Rattle.std.proofs.Common.{arith}
use Rattle.stn_core.specs.declared.literal.Literal.{Literal}
use Rattle.stn_core.specs.Literal.{Holds}
use Rattle.branch_search.proofs.Holding.{All-whole_of, not_held}
use Rattle.branch_search.proofs.clauses.clause_holds.Goals as goal

pub loop-literal-preserved : goal.loop-literal-preserved
loop-literal-preserved c = record {
  fails = not_held (Holds c.args.values.now) _ c.args.clause.now c.loop-literal.literal-index _ c.holds.result c.as_slice-literal-items.ensures c.if-holds.false c.holds.ensures.1 (omega (arith, c.loop-literal-test.true)) c.loop-literal.invariant.fails;
}

pub returns-clause-fails : goal.returns-clause-fails
returns-clause-fails c = λ e. All-whole_of (λ (l : Literal). Holds c.args.values.now l → ⊥) c.as_slice-literal-items.result.now c.args.clause.now c.loop-literal.literal-index c.as_slice-literal-items.ensures (omega (arith, c.loop-literal-test.false)) c.loop-literal.invariant.fails
