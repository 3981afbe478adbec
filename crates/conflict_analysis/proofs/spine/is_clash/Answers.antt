use Rattle.std.proofs.Common.{arith, length, sym, subst, ◌∙◌}
use Rattle.conflict_analysis.specs.code.Trails.{StandsUsed}
use Rattle.conflict_analysis.proofs.Shut.{assumed_next}
use Rattle.conflict_analysis.proofs.spine.is_clash.Goals as goal

pub used_place-k-requires-clause-stands : goal.used_place-k-requires-clause-stands
used_place-k-requires-clause-stands g c =
    rw c.count-below.ensures (subst (StandsUsed c.args.graph.now.trail c.args.outline.now.roles.now (length c.args.graph.now.trail)) (sym c.negate.ensures) (c.requires.used c.loop-q.q (omega (arith, c.loop-q-test.true))))

pub loop-q-preserved : goal.loop-q-preserved
loop-q-preserved g c = record {
  assumed = assumed_next c.args.graph.now.trail c.args.outline.now.roles.now c.args.outline.now.leaves.now c.args.clause.now c.loop-q.q c.loop-q.invariant.assumed
      (c.used_place-k.result, (rw c.count-below.ensures at c.used_place-k.ensures.below), c.used_place-k.ensures.used, c.if-outline-k.false, c.used_place-k.ensures.is ∙ c.negate.ensures);
}
