use Rattle.std.proofs.Common.{arith, sym, ◌∙◌}
use Rattle.conflict_analysis.proofs.Shut.{others_used, place_within}
use Rattle.conflict_analysis.proofs.spine.push_opening.Goals as goal

pub push_leaves-requires-clause-used : goal.push_leaves-requires-clause-used
push_leaves-requires-clause-used g c q low high =
    let inputs = c.args.graph.now.inputs in
    let lemmas = c.args.graph.now.lemmas in
    let reason = sym c.reason.ensures ∙ c.in-Clause.is in
    let inside = place_within inputs lemmas c.args.graph.now.trail c.args.outline.now.roles.now c.args.k _ c.in-Clause.source c.in-Clause.place _ c.clause-clause.result.now c.requires.follows reason c.clause-clause.ensures in
    others_used inputs lemmas c.args.graph.now.trail c.args.outline.now.roles.now c.args.k _ c.in-Clause.source c.in-Clause.place _ c.clause-clause.result.now c.requires.follows reason c.clause-clause.ensures q (omega (arith, high, inside)) (λ same. absurd (omega (arith, high, same)))
