use Rattle.std.proofs.Common.{arith}
use Rattle.conflict_analysis.proofs.Shut.{shut_more, grows_twice}
use Rattle.conflict_analysis.proofs.spine.push_leaves.Goals as goal

pub loop-q-preserved : goal.loop-q-preserved
loop-q-preserved g c =
    let inputs = c.args.graph.now.inputs in
    let lemmas = c.args.graph.now.lemmas in
    let before = c.loop-q.invariant.grows in
    let one = c.in_ok-push_leaf.ensures in
    let within = c.loop-q-test.true in
    let end = c.requires.end in
    record {
      high = omega (arith, within);
      low = omega (arith, c.loop-q.invariant.low);
      grows = grows_twice _ c.args.steps.now c.loop-q.steps _ before.0 one.0 before.1 one.1
          (shut_more inputs lemmas c.args.graph.now.trail c.args.outline.now.roles.now c.args.outline.now.leaves.now c.args.below c.args.clause.now c.args.low c.loop-q.q before.0 one.0 (omega (arith, within, end)) before.2 one.2);
    }
