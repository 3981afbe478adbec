use Rattle.std.proofs.Common.{subst}
use Rattle.stn_core.specs.declared.problem.Problem.{Problem}
use Rattle.stn_core.specs.Literal.{IsOver}
use Rattle.branch_search.proofs.Proposals.{unit_pushed, same_parts}
use Rattle.branch_search.proofs.state.State.take_unit.Goals as goal

pub returns-clause-taken : goal.returns-clause-taken
returns-clause-taken g c =
    let q = c.args.task.now in
    let literals = g.N.Net.literals_of c.args.net.now in
    same_parts q c.args.self.now.own.items c.push.new.self.own.items c.push.new.self.entries.items
    c.args.self.now.levels.items c.push.new.self.levels.items literals c.in_ok-push.ensures.own
    c.in_ok-push.ensures.levels
    (unit_pushed q c.args.self.now.own.items c.args.self.now.entries.items c.push.new.self.entries.items
    c.args.self.now.levels.items literals c.in-Some.literal _ c.args.source c.args.place c.requires.state
    (subst (λ (p : Problem). IsOver p.points c.in-Some.literal) c.problem.ensures (c.is_over.ensures c.if-not-is_over.false))
    c.in_ok-push.ensures.entries)
