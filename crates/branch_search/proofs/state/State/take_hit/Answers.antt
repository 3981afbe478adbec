use Rattle.std.proofs.Common.{◌∙◌, subst}
use Rattle.stn_core.specs.declared.problem.Problem.{Problem}
use Rattle.stn_core.specs.Literal.{IsOver}
use Rattle.branch_search.proofs.Hits.{hit_pushed}
use Rattle.branch_search.proofs.Proposals.{same_parts}
use Rattle.branch_search.proofs.state.State.take_hit.Goals as goal

pub returns-in_ok-push-clause-state : goal.returns-in_ok-push-clause-state
returns-in_ok-push-clause-state g c =
    let q = c.args.task.now in
    let literals = g.N.Net.literals_of c.args.net.now in
    same_parts q c.args.self.now.own.items c.push.new.self.own.items c.push.new.self.entries.items
    c.args.self.now.levels.items c.push.new.self.levels.items literals
    (c.in_ok-push.ensures.own ∙ c.in_ok-cycle.ensures.own) (c.in_ok-push.ensures.levels ∙ c.in_ok-cycle.ensures.levels)
    (hit_pushed q c.args.self.now.own.items c.args.self.now.entries.items c.explain.new.self.entries.items
    c.push.new.self.entries.items c.args.self.now.levels.items literals c.in-Some.literal c.args.number _ c.in-Some-2.cycle
    c.requires.state c.in_ok-cycle.ensures.entries
    (subst (λ (p : Problem). IsOver p.points c.in-Some.literal) c.problem.ensures (c.is_over.ensures c.if-not-is_over.false)) c.in-Some-2.is c.in_ok-cycle.ensures.cycle
    c.in_ok-push.ensures.entries)
