use Rattle.std.proofs.Common.{arith}
use Rattle.branch_search.proofs.Learned.{jumped_goes}
use Rattle.branch_search.proofs.state.State.settle.Goals as goal

pub restart-requires : goal.restart-requires
restart-requires g c =
    let goes = jumped_goes c.args.task.now _ c.react.new.self.own.items c.react.new.self.entries.items c.react.new.self.levels.items
    (g.N.Net.literals_of c.react.new.net) c.in_ok-react.field-0 c.in_ok-react.ensures.settled c.in-Jumped.is in
    record { state = goes.1 }

pub returns-clause-turn : goal.returns-clause-turn
returns-clause-turn g c =
    let goes = jumped_goes c.args.task.now _ c.react.new.self.own.items c.react.new.self.entries.items c.react.new.self.levels.items
    (g.N.Net.literals_of c.react.new.net) c.in_ok-react.field-0 c.in_ok-react.ensures.settled c.in-Jumped.is in
    let few = goes.0 in
    let fewer = c.restart.ensures.levels in
    (omega arith, c.restart.ensures.state)
