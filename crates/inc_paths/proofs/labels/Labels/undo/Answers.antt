use Rattle.std.proofs.Common.{arith, sym, ap, ◌∙◌, ◌-◌, ◌<◌, length, take}
use Rattle.inc_paths.proofs.Undoing.{first_of-last, take-take}
use Rattle.inc_paths.proofs.labels.Labels.undo.Goals as goal

pub newest-preserved : goal.newest-preserved
newest-preserved c =
    let trail = c.newest.self.trail in
    let lt : c.args.start < length trail = omega (arith, c.newest-test.true, c.trail_len.ensures) in
    record {
      values = rw (c.undo_last.ensures.values, c.undo_last.ensures.trail) (sym (first_of-last c.args.start trail c.newest.self.values lt) ∙ c.newest.invariant.values);
      trail = ap (take c.args.start) c.undo_last.ensures.trail ∙ take-take c.args.start (length trail - 1) trail (omega arith) ∙ c.newest.invariant.trail;
    }
