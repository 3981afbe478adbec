use Rattle.std.proofs.Common.{arith, ℕ, ◌<◌, All, slice_index_or, take}
use Rattle.best_values.specs.FreeSets.{AreMarks}
use Rattle.best_values.proofs.Keeping.{marked_more, marked_all}
use Rattle.best_values.proofs.marks.marks_of.Goals as goal

pub loop-point-preserved : goal.loop-point-preserved
loop-point-preserved c =
    let old : AreMarks c.args.points (take c.loop-point.point-index c.args.set.now) c.loop-point.marks.items = record { count = c.loop-point.invariant.count; each = c.loop-point.invariant.each } in
    let new = marked_more c.args.points c.loop-point.point-index c.args.set.now c.loop-point.marks.items c.loop-point-test.true (c.requires c.loop-point.point-index 0 c.loop-point-test.true) old in
    record { count = new.count; each = new.each }

pub returns : goal.returns
returns c = marked_all c.args.points c.loop-point.point-index c.args.set.now c.loop-point.marks.items (omega (arith, c.loop-point-test.false)) (record { count = c.loop-point.invariant.count; each = c.loop-point.invariant.each })
