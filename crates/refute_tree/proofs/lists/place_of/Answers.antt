use Rattle.std.proofs.Common.{arith}
use Rattle.refute_tree.proofs.Places.{ends_step, place_before}
use Rattle.refute_tree.proofs.lists.place_of.Goals as goal

pub before-place-requires : goal.before-place-requires
before-place-requires c = ends_step c.args.slices c.back.place c.requires.whole (omega arith) c.back.invariant.most c.back.invariant.place

pub back-preserved : goal.back-preserved
back-preserved c =
    let here = place_before c.args.slices c.back.place c.requires.whole (omega arith) c.back.invariant.most c.back.invariant.place c.before-place.result c.before-place.ensures in
    record {
      least = omega (arith, c.before-place.ensures.kinds);
      most = omega (arith, c.before-place.ensures.kinds, c.back.invariant.most);
      place = here;
    }
