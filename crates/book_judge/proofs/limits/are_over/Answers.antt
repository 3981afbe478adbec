use Rattle.std.proofs.Common.{refl}
use Rattle.stn_core.specs.Literal.{IsOver}
use Rattle.book_judge.proofs.Judged.{all_more, all_end}
use Rattle.book_judge.proofs.limits.are_over.Goals as goal

pub loop-literal-preserved : goal.loop-literal-preserved
loop-literal-preserved c = all_more (IsOver c.args.points) c.args.literals.now c.loop-literal.literal-index _ c.loop-literal-test.true c.loop-literal.invariant (c.if-not-is_over.ensures.0 refl)

pub returns : goal.returns
returns c = (λ t. all_end (IsOver c.args.points) c.args.literals.now c.loop-literal.literal-index c.loop-literal-test.false c.loop-literal.invariant, λ h. refl)
