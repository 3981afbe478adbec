use Rattle.std.proofs.Common.{[], ◌∷◌}
use Rattle.refute_tree.specs.declared.step.Step.TheVariants.{Cycle}
use Rattle.conflict_analysis.proofs.Shut.{conflict_cycle_closes}
use Rattle.conflict_analysis.proofs.spine.push_conflict.Goals as goal

pub returns-in_ok-push_cycle-in-Cycle : goal.returns-in_ok-push_cycle-in-Cycle
returns-in_ok-push_cycle-in-Cycle g c =
    (Cycle c.as_slice.result.now ∷ [], c.in_ok-push_cycle-in-Cycle.ensures.ok, conflict_cycle_closes c.args.graph.now.inputs c.args.graph.now.lemmas c.args.graph.now.trail c.args.outline.now.roles.now c.args.outline.now.leaves.now c.args.conflict.now c.in-Cycle.cycle c.as_slice.result.now c.requires.conflict c.requires.assumed c.in-Cycle.is c.as_slice.ensures)
