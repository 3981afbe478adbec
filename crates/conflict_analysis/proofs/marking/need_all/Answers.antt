use Rattle.std.proofs.Common.{arith, ◌∙◌}
use Rattle.conflict_analysis.proofs.Marks.{marked_twice, all_more}
use Rattle.conflict_analysis.proofs.Passing.{waiting_twice}
use Rattle.conflict_analysis.proofs.marking.need_all.Goals as goal

pub loop-q-preserved : goal.loop-q-preserved
loop-q-preserved g c =
    let after = c.in_ok-need.ensures in record {
      more = marked_twice c.args.below _ _ _ c.loop-q.invariant.more after.more;
      waiting = waiting_twice _ _ _ _ _ _ c.loop-q.invariant.waiting after.waiting;
      passed = after.passed ∙ c.loop-q.invariant.passed;
      used = all_more c.args.graph.now.trail c.loop-q.marks.roles.items c.need.new.marks.roles.items c.args.below c.args.cycle.now c.loop-q.q c.loop-q.invariant.used after.more (after.used (after.stands (c.requires.stand c.loop-q.q (omega (arith, c.loop-q-test.true)))));
    }
