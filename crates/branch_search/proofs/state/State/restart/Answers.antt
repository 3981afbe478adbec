use Rattle.std.proofs.Common.{◌<◌, length, List, subst, refl}
use Rattle.conflict_analysis.specs.declared.entry.Level.{Level}
use Rattle.branch_search.proofs.Learned.{cut_back}
use Rattle.branch_search.proofs.state.State.restart.Goals as goal

pub returns-clause-state : goal.returns-clause-state
returns-clause-state g c =
    let within = subst (λ (vs : List Level). c.in-Some.level < length vs) c.deref-2.ensures.value c.in-Some.ensures in
    cut_back c.args.task.now
    c.args.self.now.own.items _ _ c.args.self.now.entries.items _ _ c.args.self.now.levels.items _ _
    (g.N.Net.literals_of c.args.net.now) _ c.in-Some.level within c.requires.state refl refl refl
    c.cut.ensures.entries c.cut.ensures.levels c.cut.ensures.literals c.cut.ensures.own
