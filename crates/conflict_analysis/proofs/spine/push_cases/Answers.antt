use Rattle.std.proofs.Common.{[], ◌∷◌}
use Rattle.conflict_analysis.specs.code.Spines.{step_of}
use Rattle.conflict_analysis.proofs.Shut.{denied_used, cases_close, grows_twice}
use Rattle.conflict_analysis.proofs.spine.push_cases.Goals as goal

pub push_leaves-requires-clause-used : goal.push_leaves-requires-clause-used
push_leaves-requires-clause-used g c q low high =
    rw c.count-below.ensures (denied_used c.args.graph.now.inputs c.args.graph.now.lemmas c.args.graph.now.trail c.args.outline.now.roles.now c.args.source c.clause-clause.result.now c.requires.conflict c.clause-clause.ensures q high)

pub returns : goal.returns
returns g c =
    let added = c.in_ok-push_leaves.ensures in
    grows_twice _ c.args.steps.now _ _ (step_of c.args.source ∷ []) added.0 c.in_ok-push_step_of.ensures added.1
    (cases_close c.args.graph.now.inputs c.args.graph.now.lemmas c.args.graph.now.trail c.args.outline.now.roles.now c.args.outline.now.leaves.now _ c.args.source c.clause-clause.result.now added.0 c.requires.conflict.0 c.clause-clause.ensures (rw c.count-below.ensures at added.2))
