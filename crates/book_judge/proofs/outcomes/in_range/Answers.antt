use Rattle.std.proofs.Common.{refl}
use Rattle.stn_core.specs.Schedule.{IsInRange}
use Rattle.book_judge.proofs.Judged.{all_more, all_end}
use Rattle.book_judge.proofs.outcomes.in_range.Goals as goal

pub loop-value-preserved : goal.loop-value-preserved
loop-value-preserved c = all_more IsInRange c.args.values.now c.loop-value.value-index _ c.loop-value-test.true c.loop-value.invariant (c.if-not-is_in_range.ensures.0 refl)

pub returns : goal.returns
returns c = (λ t. all_end IsInRange c.args.values.now c.loop-value.value-index c.loop-value-test.false c.loop-value.invariant, λ h. refl)
