use Rattle.std.proofs.Common.{arith, sym, ◌∙◌}
use Rattle.conflict_analysis.proofs.Shut.{others_used}
use Rattle.conflict_analysis.proofs.spine.push_closing.Goals as goal

pub push_leaves-requires-clause-used : goal.push_leaves-requires-clause-used
push_leaves-requires-clause-used g c q low high =
    let inputs = c.args.graph.now.inputs in
    let lemmas = c.args.graph.now.lemmas in
    let reason = sym c.reason.ensures ∙ c.in-Clause.is in
    others_used inputs lemmas c.args.graph.now.trail c.args.outline.now.roles.now c.args.k _ c.in-Clause.source c.in-Clause.place _ c.clause-clause.result.now c.requires.follows reason c.clause-clause.ensures q high (λ same. absurd (omega (arith, low, same)))
