use Rattle.conflict_analysis.proofs.Chosen.{denied_more, denied_past}
use Rattle.conflict_analysis.proofs.leaves.are_denied.Goals as goal
use Rattle.conflict_analysis.proofs.leaves.are_denied.Goals.{then-q-place+else-not-is_assumed, else-q-place}

pub loop-q-preserved : goal.loop-q-preserved
loop-q-preserved g c = elim c.if-q-place.branch [
  | then-q-place+else-not-is_assumed w ↦ record {
    denied = denied_more c.args.graph.now.trail c.args.roles.now c.args.leaves.now c.args.below c.args.clause.now c.args.place c.loop-q.q _ c.loop-q.invariant.denied w.negate.ensures (w.is_assumed.ensures w.if-not-is_assumed.false);
  }
  | else-q-place w ↦ record {
    denied = denied_past c.args.graph.now.trail c.args.roles.now c.args.leaves.now c.args.below c.args.clause.now c.args.place c.loop-q.q c.loop-q.invariant.denied w.if-q-place.false;
  }
]
