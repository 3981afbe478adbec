use Rattle.std.proofs.Common.{sym, ◌∙◌, ap, [], ◌∷◌}
use Rattle.refute_tree.specs.declared.step.Step.TheVariants.{Clash}
use Rattle.conflict_analysis.specs.declared.entry.Source.{Source}
use Rattle.conflict_analysis.specs.declared.entry.Reason.TheVariants.{Clause as ByClause}
use Rattle.conflict_analysis.proofs.Shut.{shut_clash, leaf_clause, ok_grows}
use Rattle.conflict_analysis.proofs.spine.push_clash_of.Goals as goal

pub returns : goal.returns
returns g c =
    let inputs = c.args.graph.now.inputs in
    let lemmas = c.args.graph.now.lemmas in
    let trail = c.args.graph.now.trail in
    let roles = c.args.outline.now.roles.now in
    let leaves = c.args.outline.now.leaves.now in
    let place = c.in-Clause.field-1 in
    let reason = sym c.reason.ensures ∙ c.in-Clause.is ∙ ap (λ (s : Source). ByClause s place) c.in-Input.is in
    ok_grows _ _ _ c.push_clash.result (Clash c.in-Input.i ∷ []) c.push_clash.ensures.ok
    (shut_clash inputs lemmas trail roles leaves c.args.below c.args.k c.in-Input.i place c.args.literal c.requires.before c.requires.denied (leaf_clause inputs lemmas trail roles leaves c.args.k _ c.requires.leaves c.requires.leaf reason))
