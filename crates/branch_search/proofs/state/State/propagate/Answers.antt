use Rattle.std.proofs.Common.{arith, ◌∙◌}
use Rattle.branch_search.proofs.Splits.{quiet_search}
use Rattle.branch_search.proofs.state.State.propagate.Goals as goal
use Rattle.branch_search.proofs.state.State.propagate.Goals.{then-has_many_waiting+in_ok-literals+in_ok-conflict-2+in_default-2, else-has_many_waiting+then-self-len-2+in_ok-conflict-3+in_default-3, else-has_many_waiting+else-self-len-2+in_ok-measure_next}

pub net_all-requires-clause-stand : goal.net_all-requires-clause-stand
net_all-requires-clause-stand g c =
    rw c.deref.ensures.value (rw c.in_ok-literals.ensures.entries c.in_ok-literals.ensures.stand)

pub literals-preserved : goal.literals-preserved
literals-preserved g c =
    let before = c.literals.invariant in
    let followed = c.in_ok-conflict.ensures in
    elim c.if-has_many_waiting.branch [
      | then-has_many_waiting+in_ok-literals+in_ok-conflict-2+in_default-2 w ↦ rw w.self-is (rw w.net-is (record {
        points = w.in_ok-conflict-2.ensures.points ∙ before.points;
        levels = w.in_ok-literals.ensures.levels ∙ followed.levels ∙ before.levels;
        state = quiet_search c.args.task.now _ _ _ _ w.in_ok-conflict-2.field-0 w.in_ok-conflict-2.ensures.after w.in_default-2.not-Some;
        counts = omega (arith, w.in_ok-conflict-2.ensures.counts, before.counts);
      }))
      | else-has_many_waiting+then-self-len-2+in_ok-conflict-3+in_default-3 w ↦ rw w.self-is (rw w.net-is (record {
        points = w.in_ok-conflict-3.ensures.points ∙ before.points;
        levels = w.in_ok-conflict-3.ensures.levels ∙ followed.levels ∙ before.levels;
        state = quiet_search c.args.task.now _ _ _ _ w.in_ok-conflict-3.field-0 w.in_ok-conflict-3.ensures.after w.in_default-3.not-Some;
        counts = omega (arith, w.in_ok-conflict-3.ensures.counts, before.counts);
      }))
      | else-has_many_waiting+else-self-len-2+in_ok-measure_next w ↦ rw w.self-is (rw w.net-is (record {
        points = before.points;
        levels = w.in_ok-measure_next.ensures.levels ∙ followed.levels ∙ before.levels;
        state = w.in_ok-measure_next.ensures.state;
        counts = before.counts;
      }))
    ]
