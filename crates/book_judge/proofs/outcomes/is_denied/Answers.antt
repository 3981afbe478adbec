use Rattle.std.proofs.Common.{refl, IsTrue, false}
use Rattle.book_judge.proofs.Judged.{denied_more, denied_end, undenied}
use Rattle.book_judge.proofs.outcomes.is_denied.Goals as goal

pub loop-literal-preserved : goal.loop-literal-preserved
loop-literal-preserved c = denied_more c.args.cube.now c.args.clause.now c.loop-literal.literal-index _ _ _ c.loop-literal-test.true c.negate.ensures c.contains.ensures c.if-not-contains.false c.loop-literal.invariant

pub returns : goal.returns
returns c = (λ t. denied_end c.args.cube.now c.args.clause.now c.loop-literal.literal-index c.loop-literal-test.false c.loop-literal.invariant, λ h. refl)

pub returns-then-not-contains : goal.returns-then-not-contains
returns-then-not-contains c = (
  λ (t : IsTrue false). absurd (cc t),
  λ h. absurd (undenied c.args.cube.now c.args.clause.now c.loop-literal.literal-index _ _ _ c.loop-literal-test.true c.negate.ensures c.contains.ensures c.if-not-contains.true h),
)
