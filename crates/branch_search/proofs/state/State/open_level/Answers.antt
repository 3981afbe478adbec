use Rattle.std.proofs.Common.{◌∙◌, subst}
use Rattle.stn_core.specs.declared.problem.Problem.{Problem}
use Rattle.stn_core.specs.Literal.{IsOver}
use Rattle.branch_search.proofs.Proposals.{decision_pushed}
use Rattle.branch_search.proofs.state.State.open_level.Goals as goal

pub returns-clause-state : goal.returns-clause-state
returns-clause-state g c =
    let decided = decision_pushed c.args.task.now
    c.args.self.now.own.items c.push.new.self.own.items c.args.self.now.entries.items _ _ c.args.self.now.levels.items _ _
    (g.N.Net.literals_of c.args.net.now) c.in-Some.literal c.args.number c.requires.state
    (c.in_ok-push.ensures.own ∙ c.in_ok-begin_level.ensures.own) c.in_ok-begin_level.ensures.entries
    c.in_ok-begin_level.ensures.levels c.in_ok-push.ensures.levels
    (subst (λ (p : Problem). IsOver p.points c.in-Some.literal) c.problem.ensures (c.is_over.ensures c.if-not-is_over.false))
    c.in_ok-push.ensures.entries in
    decided.1
