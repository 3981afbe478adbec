use Rattle.std.proofs.Common.{refl, sym, ◌∙◌, ap, [], ◌∷◌, ◌≡◌, true, false}
use Rattle.stn_core.specs.declared.literal.Literal.{Literal}
use Rattle.conflict_analysis.proofs.Marks.{pair_others, marked_none, not_denied, not_stated, turned_by_clause, turned_by_none, turned_by_pair, turned_by_cycle}
use Rattle.conflict_analysis.proofs.Passing.{waiting_resolved}
use Rattle.conflict_analysis.proofs.marking.resolve.Goals as goal

pub need_cycle-requires-clause-stand : goal.need_cycle-requires-clause-stand
need_cycle-requires-clause-stand g c =
    pair_others c.args.graph.now.inputs c.args.graph.now.lemmas c.requires.trail.0
    c.args.graph.now.trail c.args.k c.in-Pair.tighter _ _ c.requires.trail.1 c.requires.within
    (sym c.reason.ensures ∙ c.in-Pair.is)
    (c.as_slice.ensures ∙ ap (λ (m : Literal). c.in-Pair.tighter ∷ m ∷ []) c.negate.ensures)
    c.literal-literal.ensures

pub returns-in_ok-need_cycle-in-Pair-clause-turned : goal.returns-in_ok-need_cycle-in-Pair-clause-turned
returns-in_ok-need_cycle-in-Pair-clause-turned g c =
    turned_by_pair c.args.graph.now.inputs c.args.graph.now.lemmas c.requires.trail.0
    c.args.graph.now.trail c.args.whole c.args.marks.now.roles.items c.need_cycle.new.marks.roles.items _ c.args.k
    c.in-Pair.tighter c.as_slice.result.now _ c.requires.within c.requires.count c.requires.trail.1
    (sym c.reason.ensures ∙ c.in-Pair.is)
    (c.as_slice.ensures ∙ ap (λ (m : Literal). c.in-Pair.tighter ∷ m ∷ []) c.negate.ensures)
    c.literal-literal.ensures c.requires.closed
    c.in_ok-need_cycle-in-Pair.ensures.more c.in_ok-need_cycle-in-Pair.ensures.used refl

pub returns-in_ok-need_cycle-in-Cycle-clause-turned : goal.returns-in_ok-need_cycle-in-Cycle-clause-turned
returns-in_ok-need_cycle-in-Cycle-clause-turned g c =
    turned_by_cycle c.args.graph.now.inputs c.args.graph.now.lemmas c.requires.trail.0
    c.args.graph.now.trail c.args.whole c.args.marks.now.roles.items c.need_cycle-in-Cycle.new.marks.roles.items _
    c.args.k c.in-Cycle.cycle c.as_slice-in-Cycle.result.now _ c.requires.within c.requires.count
    c.requires.trail.1
    (sym c.reason.ensures ∙ c.in-Cycle.is)
    c.as_slice-in-Cycle.ensures
    c.literal.ensures c.requires.closed
    c.in_ok-need_cycle-in-Cycle.ensures.more
    c.in_ok-need_cycle-in-Cycle.ensures.used refl

pub returns-in_ok-need_cycle-in-Pair-clause-waiting : goal.returns-in_ok-need_cycle-in-Pair-clause-waiting
returns-in_ok-need_cycle-in-Pair-clause-waiting g c =
    waiting_resolved _ _ _ _ _ c.args.k c.in_ok-need_cycle-in-Pair.ensures.waiting
    (c.in_ok-need_cycle-in-Pair.ensures.more.used c.args.k c.requires.used) refl

pub returns-in_ok-need_cycle-in-Cycle-clause-waiting : goal.returns-in_ok-need_cycle-in-Cycle-clause-waiting
returns-in_ok-need_cycle-in-Cycle-clause-waiting g c =
    waiting_resolved _ _ _ _ _ c.args.k c.in_ok-need_cycle-in-Cycle.ensures.waiting
    (c.in_ok-need_cycle-in-Cycle.ensures.more.used c.args.k c.requires.used) refl

pub returns-then-follows-clause-turned : goal.returns-then-follows-clause-turned
returns-then-follows-clause-turned g c =
    turned_by_clause c.args.graph.now.inputs c.args.graph.now.lemmas c.args.graph.now.trail c.args.whole
    c.args.marks.now.roles.items c.need_denials.new.marks.roles.items _ c.args.k
    c.in-Clause.source c.in-Clause.place c.clause-clause.result.now c.requires.within c.requires.count
    (c.is_stated.ensures.0 c.if-is_stated.true)
    (sym c.reason.ensures ∙ c.in-Clause.is)
    c.clause-clause.ensures c.requires.closed c.in_ok-follows-in-Clause.ensures.more
    (c.in_ok-follows-in-Clause.ensures.used c.if-follows.true) refl

pub returns-then-follows-clause-waiting : goal.returns-then-follows-clause-waiting
returns-then-follows-clause-waiting g c =
    waiting_resolved _ _ _ _ _ c.args.k c.in_ok-follows-in-Clause.ensures.waiting
    (c.in_ok-follows-in-Clause.ensures.more.used c.args.k c.requires.used) refl

pub returns-else-follows-clause-turned : goal.returns-else-follows-clause-turned
returns-else-follows-clause-turned g c =
    let inputs = c.args.graph.now.inputs in
    let lemmas = c.args.graph.now.lemmas in
    let trail = c.args.graph.now.trail in
    let marked = c.in_ok-follows-in-Clause.ensures in
    turned_by_none inputs lemmas trail c.args.whole
    c.args.marks.now.roles.items c.need_denials.new.marks.roles.items c.args.k c.in-Clause.source c.in-Clause.place
    (sym c.reason.ensures ∙ c.in-Clause.is)
    (not_denied inputs lemmas trail c.args.k c.in-Clause.source c.in-Clause.place c.clause-clause.result.now c.clause-clause.ensures
    (λ all. let no : true ≡ false = sym (marked.stand all) ∙ c.if-follows.false in absurd cc))
    c.requires.closed marked.more

pub returns-else-is_stated-clause-turned : goal.returns-else-is_stated-clause-turned
returns-else-is_stated-clause-turned g c =
    let inputs = c.args.graph.now.inputs in
    let lemmas = c.args.graph.now.lemmas in
    let trail = c.args.graph.now.trail in
    turned_by_none inputs lemmas trail c.args.whole
    c.args.marks.now.roles.items c.args.marks.now.roles.items c.args.k c.in-Clause.source c.in-Clause.place
    (sym c.reason.ensures ∙ c.in-Clause.is)
    (not_stated inputs lemmas trail c.args.k c.in-Clause.source c.in-Clause.place
    (λ at. let no : true ≡ false = sym (c.is_stated.ensures.1 at) ∙ c.if-is_stated.false in absurd cc))
    c.requires.closed (marked_none c.args.k c.args.marks.now.roles.items)
