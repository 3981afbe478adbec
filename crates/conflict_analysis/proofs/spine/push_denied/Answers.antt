use Rattle.std.proofs.Common.{[], ◌∷◌, subst, length}
use Rattle.refute_tree.specs.declared.step.Step.TheVariants.{Clash}
use Rattle.conflict_analysis.specs.declared.entry.Source.{Source}
use Rattle.conflict_analysis.specs.declared.entry.Source.TheVariants.{Input as OfInput}
use Rattle.conflict_analysis.specs.declared.entry.Conflict.TheVariants.{Clause as OfClause}
use Rattle.conflict_analysis.specs.code.Trails.{IsConflict, IsKnown, StandsUsed}
use Rattle.conflict_analysis.proofs.Shut.{denied_used, clash_closes}
use Rattle.conflict_analysis.proofs.spine.push_denied.Goals as goal
use Rattle.conflict_analysis.proofs.spine.push_denied.Goals.{in-Lemma, in-Input+else-is_clash}

pub is_clash-requires-clause-used : goal.is_clash-requires-clause-used
is_clash-requires-clause-used g c =
    let inputs = c.args.graph.now.inputs in
    let lemmas = c.args.graph.now.lemmas in
    let Good = StandsUsed c.args.graph.now.trail c.args.outline.now.roles.now (length c.args.graph.now.trail) in
    denied_used inputs lemmas c.args.graph.now.trail c.args.outline.now.roles.now (OfInput c.in-Input.i) c.clause-clause.result.now (subst (λ (s : Source). IsConflict inputs lemmas Good (OfClause s)) c.in-Input.is c.requires.conflict) c.clause-clause.ensures

pub returns-then-is_clash : goal.returns-then-is_clash
returns-then-is_clash g c =
    let inputs = c.args.graph.now.inputs in
    let lemmas = c.args.graph.now.lemmas in
    let known = subst (λ (s : Source). IsKnown inputs lemmas s) c.in-Input.is c.requires.conflict.0 in
    (Clash c.in-Input.i ∷ [], c.in_ok-push_clash-in-Input.ensures.ok, clash_closes inputs lemmas c.args.graph.now.trail c.args.outline.now.roles.now c.args.outline.now.leaves.now (length c.args.graph.now.trail) c.in-Input.i c.clause-clause.result.now known c.clause-clause.ensures (c.is_clash.ensures c.if-is_clash.true))

pub push_cases-requires-clause-conflict : goal.push_cases-requires-clause-conflict
push_cases-requires-clause-conflict g c =
    let inputs = c.args.graph.now.inputs in
    let lemmas = c.args.graph.now.lemmas in
    let Good = StandsUsed c.args.graph.now.trail c.args.outline.now.roles.now (length c.args.graph.now.trail) in
    elim c.match-source.branch [
      | in-Lemma w ↦ rw w.source-is c.requires.conflict
      | in-Input+else-is_clash w ↦ rw w.source-is (subst (λ (s : Source). IsConflict inputs lemmas Good (OfClause s)) w.in-Input.is c.requires.conflict)
    ]
