use Rattle.std.proofs.Common.{arith, ◌∙◌, ap}
use Rattle.stn_core.specs.Literal.{negation_of}
use Rattle.conflict_analysis.proofs.Marks.{kept_push, kept_past, denies_push}
use Rattle.conflict_analysis.proofs.analysis.kept_clause.Goals as goal
use Rattle.conflict_analysis.proofs.analysis.kept_clause.Goals.{in-Kept+in_ok-push, in_default}

pub loop-i-preserved : goal.loop-i-preserved
loop-i-preserved g c =
    let within = c.requires.passed.within c.loop-i.i (omega (arith, c.loop-i-test.true)) in
    elim c.match-roles-k.branch [
      | in-Kept+in_ok-push w ↦ rw w.clause-is (record {
        kept = kept_push c.args.graph.now.trail c.args.roles.now c.args.passed.now c.loop-i.i c.loop-i.clause.items _ _ c.loop-i.invariant.kept w.in_ok-push.ensures.items (w.negate.ensures ∙ ap negation_of w.literal.ensures);
        denied = denies_push c.args.graph.now.trail c.args.roles.now _ c.loop-i.clause.items _ _ c.loop-i.invariant.denied w.in_ok-push.ensures.items (w.negate.ensures ∙ ap negation_of w.literal.ensures) within w.in-Kept.is;
      })
      | in_default w ↦ rw w.clause-is (record {
        kept = kept_past c.args.graph.now.trail c.args.roles.now c.args.passed.now c.loop-i.i c.loop-i.clause.items c.loop-i.invariant.kept w.in_default.not-Kept;
        denied = c.loop-i.invariant.denied;
      })
    ]
