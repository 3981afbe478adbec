use Rattle.std.proofs.Common.{arith, inl, inr, ◌∙◌}
use Rattle.stn_core.specs.Literal.{literal_at}
use Rattle.conflict_analysis.proofs.Marks.{marked_none, marked_twice, cycle_more, cycle_stands}
use Rattle.conflict_analysis.proofs.Passing.{waiting_twice}
use Rattle.conflict_analysis.proofs.marking.need_cycle.Goals as goal
use Rattle.conflict_analysis.proofs.marking.need_cycle.Goals.{then-not-is_same+in_ok-need, else-not-is_same}

pub loop-q-preserved : goal.loop-q-preserved
loop-q-preserved g c = elim c.if-not-is_same.branch [
  | then-not-is_same+in_ok-need w ↦ rw w.marks-is (let after = w.in_ok-need.ensures in record {
    more = marked_twice c.args.below _ _ _ c.loop-q.invariant.more after.more;
    waiting = waiting_twice _ _ _ _ _ _ c.loop-q.invariant.waiting after.waiting;
    passed = after.passed ∙ c.loop-q.invariant.passed;
    used = cycle_more c.args.graph.now.trail c.loop-q.marks.roles.items w.need.new.marks.roles.items c.args.below c.args.cycle.now c.args.literal c.loop-q.q c.loop-q.invariant.used after.more (inr (after.used (after.stands (cycle_stands c.args.graph.now.trail c.args.below c.args.literal (literal_at c.args.cycle.now c.loop-q.q) c.negate-denied.result c.is_same.result (c.requires.stand c.loop-q.q (omega (arith, c.loop-q-test.true))) c.negate-denied.ensures w.if-not-is_same.true c.is_same.ensures))));
  })
  | else-not-is_same w ↦ rw w.marks-is (record {
    more = c.loop-q.invariant.more;
    waiting = c.loop-q.invariant.waiting;
    passed = c.loop-q.invariant.passed;
    used = cycle_more c.args.graph.now.trail c.loop-q.marks.roles.items c.loop-q.marks.roles.items c.args.below c.args.cycle.now c.args.literal c.loop-q.q c.loop-q.invariant.used (marked_none c.args.below c.loop-q.marks.roles.items) (inl (c.is_same.ensures.0 w.if-not-is_same.false ∙ c.negate-denied.ensures));
  })
]
