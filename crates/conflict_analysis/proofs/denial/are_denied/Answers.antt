use Rattle.conflict_analysis.proofs.Denied.{denied_next, denied_past}
use Rattle.conflict_analysis.proofs.denial.are_denied.Goals as goal
use Rattle.conflict_analysis.proofs.denial.are_denied.Goals.{else-q-place-via-then-q-place+else-not-is_denied_near, else-q-place-via-else-q-place}

pub loop-q-preserved : goal.loop-q-preserved
loop-q-preserved c = elim c.else-q-place.branch [
  | else-q-place-via-then-q-place+else-not-is_denied_near w ↦ record {
    denied = denied_next c.args.entries.now c.args.clause.now c.args.place c.loop-q.q (w.is_denied_near.ensures w.if-not-is_denied_near.false) c.loop-q.invariant.denied;
  }
  | else-q-place-via-else-q-place w ↦ record {
    denied = denied_past c.args.entries.now c.args.clause.now c.args.place c.loop-q.q w.if-q-place.false c.loop-q.invariant.denied;
  }
]
