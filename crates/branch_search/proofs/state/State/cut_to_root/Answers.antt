use Rattle.std.proofs.Common.{rules, ◌<◌, length, refl}
use Rattle.branch_search.proofs.Learned.{cut_back}
use Rattle.branch_search.proofs.state.State.cut_to_root.Goals as goal

pub returns-then-not-is_empty-clause-state : goal.returns-then-not-is_empty-clause-state
returns-then-not-is_empty-clause-state g c =
    let some : 0 < length c.args.self.now.levels.items = search rules in
    cut_back c.args.task.now
    c.args.self.now.own.items _ _ c.args.self.now.entries.items _ _ c.args.self.now.levels.items _ _
    (g.N.Net.literals_of c.args.net.now) _ 0 some c.requires.state refl refl refl
    c.cut.ensures.entries c.cut.ensures.levels c.cut.ensures.literals c.cut.ensures.own
