use Rattle.std.proofs.Common.{◌∙◌, ap, subst, length, [], ◌∷◌}
use Rattle.stn_core.specs.declared.literal.Literal.{Literal}
use Rattle.stn_core.specs.declared.problem.Problem.{Problem}
use Rattle.stn_core.specs.Literal.{IsOver}
use Rattle.conflict_analysis.specs.code.Trails.{Stands}
use Rattle.branch_search.proofs.Proposals.{pair_stuck, pair_pushed, stands_at, same_parts}
use Rattle.branch_search.proofs.state.State.take_weaker.Goals as goal

pub returns-then-is_on_trail-clause-taken : goal.returns-then-is_on_trail-clause-taken
returns-then-is_on_trail-clause-taken g c =
    let es = c.args.self.now.entries.items in
    let tighter = c.literal_on-tighter.result in
    pair_stuck c.args.task.now
    c.args.self.now.own.items es c.args.self.now.levels.items (g.N.Net.literals_of c.args.net.now) c.new.result tighter
    c.in-Some.weaker c.requires.state
    (stands_at es _ c.args.k _ c.deref.ensures.value c.requires.within c.literal_on-tighter.ensures)
    (subst (Stands es (length es)) c.negate.ensures (c.is_on_trail.ensures c.if-is_on_trail.true))
    (c.is_weaker.ensures c.if-not-is_weaker.false)
    (c.new.ensures ∙ c.in_ok-cycle.ensures.items ∙ ap (λ (m : Literal). tighter ∷ m ∷ []) c.negate-then-is_on_trail.ensures)

pub returns-clause-taken : goal.returns-clause-taken
returns-clause-taken g c =
    let q = c.args.task.now in
    let literals = g.N.Net.literals_of c.args.net.now in
    let es = c.args.self.now.entries.items in
    same_parts q c.args.self.now.own.items c.push.new.self.own.items c.push.new.self.entries.items
    c.args.self.now.levels.items c.push.new.self.levels.items literals c.in_ok-push.ensures.own
    c.in_ok-push.ensures.levels
    (pair_pushed q c.args.self.now.own.items es c.push.new.self.entries.items c.args.self.now.levels.items literals
    c.literal_on-tighter.result c.in-Some.weaker c.args.number c.requires.state
    (stands_at es _ c.args.k _ c.deref.ensures.value c.requires.within c.literal_on-tighter.ensures)
    (subst (λ (p : Problem). IsOver p.points c.in-Some.weaker) c.problem.ensures (c.is_over.ensures c.if-not-is_over.false))
    (c.is_weaker.ensures c.if-not-is_weaker.false)
    c.in_ok-push.ensures.entries)
