use Rattle.std.proofs.Common.{refl, IsTrue, false}
use Rattle.refute_tree.specs.Batches.{NamesOver}
use Rattle.book_judge.proofs.Judged.{next_holds, steps_both}
use Rattle.book_judge.proofs.limits.names_over.Goals as goal

pub returns-then-not-step_over : goal.returns-then-not-step_over
returns-then-not-step_over c = (
  λ (t : IsTrue false). absurd (cc t),
  λ h. c.if-not-step_over.ensures.1 (next_holds (NamesOver c.args.points) c.args.steps.now c.loop-step.reader c.next.new.self _ c.in-Some.ensures c.loop-step.invariant h),
)

pub loop-step-preserved : goal.loop-step-preserved
loop-step-preserved c = steps_both (NamesOver c.args.points) c.args.steps.now c.loop-step.reader c.next.new.self _ c.in-Some.ensures (c.if-not-step_over.ensures.0 refl) c.loop-step.invariant
