use Rattle.conflict_analysis.proofs.Chosen.{fewer_twice, all_more}
use Rattle.conflict_analysis.proofs.leaves.assume_all.Goals as goal

pub loop-q-preserved : goal.loop-q-preserved
loop-q-preserved g c = record {
  fewer = fewer_twice _ _ _ c.loop-q.invariant.fewer c.assume.ensures.fewer;
  assumed = all_more c.args.graph.now.trail c.args.roles.now c.loop-q.leaves.items c.assume.new.leaves.items c.args.below c.args.cycle.now c.loop-q.q c.assume.ensures.fewer c.loop-q.invariant.assumed c.assume.ensures.assumed;
}
