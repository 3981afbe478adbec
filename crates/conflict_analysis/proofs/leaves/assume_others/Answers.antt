use Rattle.std.proofs.Common.{inl, inr, ◌∙◌}
use Rattle.conflict_analysis.proofs.Chosen.{fewer_none, fewer_twice, others_more}
use Rattle.conflict_analysis.proofs.leaves.assume_others.Goals as goal
use Rattle.conflict_analysis.proofs.leaves.assume_others.Goals.{then-not-is_same, else-not-is_same}

pub loop-q-preserved : goal.loop-q-preserved
loop-q-preserved g c = elim c.if-not-is_same.branch [
  | then-not-is_same w ↦ rw w.leaves-is (record {
    fewer = fewer_twice _ _ _ c.loop-q.invariant.fewer w.assume.ensures.fewer;
    assumed = others_more c.args.graph.now.trail c.args.roles.now c.loop-q.leaves.items w.assume.new.leaves.items c.args.below c.args.cycle.now c.args.literal c.loop-q.q w.assume.ensures.fewer c.loop-q.invariant.assumed (inr w.assume.ensures.assumed);
  })
  | else-not-is_same w ↦ rw w.leaves-is (record {
    fewer = c.loop-q.invariant.fewer;
    assumed = others_more c.args.graph.now.trail c.args.roles.now c.loop-q.leaves.items c.loop-q.leaves.items c.args.below c.args.cycle.now c.args.literal c.loop-q.q (fewer_none c.loop-q.leaves.items) c.loop-q.invariant.assumed (inl (c.is_same.ensures.0 w.if-not-is_same.false ∙ c.negate-denied.ensures));
  })
]
