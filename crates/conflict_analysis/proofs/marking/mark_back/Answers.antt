use Rattle.std.proofs.Common.{arith, ap, ◌∙◌, ℕ, List, [], ◌∷◌, ◌++◌}
use Rattle.conflict_analysis.proofs.Passing.{waiting_next, passed_more, passed_end, marked_to, marked_end}
use Rattle.conflict_analysis.proofs.marking.mark_back.Goals as goal

pub back-preserved : goal.back-preserved
back-preserved g c =
    let inputs = c.args.graph.now.inputs in
    let lemmas = c.args.graph.now.lemmas in
    let before = c.back.invariant in
    let next = c.in-Some.ensures.some in
    let k = c.in-Some.k in
    let after = c.in_ok-turn.ensures in
    let nearer = next.within in
    record {
      within = omega (arith, before.within, nearer);
      marked = marked_to inputs lemmas c.args.graph.now.trail c.args.whole c.args.marks.now.roles.items
          c.back.marks.roles.items c.turn.new.marks.roles.items k c.back.low _ _ before.waiting next before.marked
          after.turned;
      waiting = after.waiting k (waiting_next c.back.low k c.back.marks.roles.items _ _ before.waiting next);
      passed = passed_more inputs lemmas c.args.graph.now.trail c.args.whole c.back.low k c.back.marks.roles.items
          c.turn.new.marks.roles.items _ _ c.back.marks.passed.items _ before.passed before.within before.waiting next
          after.turned
          (c.in_ok-push.ensures.items ∙ ap (λ (places : List ℕ). places ++ k ∷ []) after.passed);
    }

pub returns-clause-marked : goal.returns-clause-marked
returns-clause-marked g c =
    marked_end c.args.graph.now.inputs c.args.graph.now.lemmas c.args.graph.now.trail c.args.whole
    c.back.low c.args.marks.now.roles.items c.back.marks.roles.items _ c.back.invariant.waiting
    c.in_default.ensures.none c.back.invariant.marked

pub returns-clause-passed : goal.returns-clause-passed
returns-clause-passed g c =
    passed_end c.args.graph.now.inputs c.args.graph.now.lemmas c.args.graph.now.trail c.args.whole
    c.back.low c.back.marks.roles.items _ c.back.marks.passed.items c.back.invariant.waiting
    c.in_default.ensures.none c.back.invariant.passed
