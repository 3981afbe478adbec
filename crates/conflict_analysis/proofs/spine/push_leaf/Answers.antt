use Rattle.std.proofs.Common.{◌∙◌, [], ◌∷◌}
use Rattle.stn_core.specs.Literal.{negation_of}
use Rattle.refute_tree.specs.declared.step.Step.TheVariants.{Cycle}
use Rattle.conflict_analysis.proofs.Shut.{shut_pair, ok_grows}
use Rattle.conflict_analysis.proofs.spine.push_leaf.Goals as goal

pub returns-else-outline-k : goal.returns-else-outline-k
returns-else-outline-k g c =
    let l = c.args.literal in
    ok_grows _ _ _ c.push_pair.result (Cycle (l ∷ negation_of l ∷ []) ∷ []) c.push_pair.ensures.ok
    (shut_pair c.args.graph.now.inputs c.args.graph.now.lemmas c.args.graph.now.trail c.args.outline.now.roles.now c.args.outline.now.leaves.now c.args.below l
    (c.used_place-k.result, c.used_place-k.ensures.below, c.used_place-k.ensures.used, c.if-outline-k.false, c.used_place-k.ensures.is ∙ c.negate.ensures))
