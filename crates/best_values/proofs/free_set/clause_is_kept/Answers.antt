use Rattle.std.proofs.Common.{pos}
use Rattle.stn_core.specs.declared.literal.Literal.{Literal}
use Rattle.best_values.proofs.Keeping.{one_kept, one_more_fails, none_is_kept}
use Rattle.best_values.proofs.free_set.clause_is_kept.Goals as goal

pub returns-then-is_kept : goal.returns-then-is_kept
returns-then-is_kept c =
    let none : Literal = record { x = 0; y = 0; c = pos 0 } in
    λ set are. one_kept c.args.values.now set c.args.clause.now _ none _ c.loop-literal-test.true (c.is_kept.ensures set are) c.if-is_kept.true

pub loop-literal-preserved : goal.loop-literal-preserved
loop-literal-preserved c =
    let none : Literal = record { x = 0; y = 0; c = pos 0 } in
    λ set are. one_more_fails c.args.values.now set c.args.clause.now _ none _ (c.loop-literal.invariant set are) c.loop-literal-test.true (c.is_kept.ensures set are) c.if-is_kept.false

pub returns : goal.returns
returns c = λ set are. none_is_kept c.args.values.now set c.args.clause.now _ (c.loop-literal.invariant set are) c.loop-literal-test.false
