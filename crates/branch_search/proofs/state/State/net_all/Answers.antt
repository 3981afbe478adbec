use Rattle.branch_search.proofs.AtOnce.{waiting_over, batch_added, batch_refused}
use Rattle.branch_search.proofs.state.State.net_all.Goals as goal

pub add_all-requires : goal.add_all-requires
add_all-requires g c =
    record {
      over = waiting_over c.args.task.now.problem.points _ c.args.self.now.entries.items c.args.literals.now c.requires.points
          c.requires.state.over c.requires.stand;
    }

pub returns-in-None-clause-after : goal.returns-in-None-clause-after
returns-in-None-clause-after g c =
    let net = g.N.Net in
    batch_added c.args.task.now
    c.args.self.now.own.items c.args.self.now.entries.items c.args.self.now.levels.items (net.literals_of c.args.net.now)
    c.args.literals.now (net.literals_of c.add_all.new.net) c.requires.state
    c.requires.stand c.in_ok-add_all.field-0 c.in-None.is c.in_ok-add_all.ensures.added

pub returns-in-Some-clause-after : goal.returns-in-Some-clause-after
returns-in-Some-clause-after g c =
    let net = g.N.Net in
    batch_refused c.args.task.now
    c.args.self.now.own.items c.args.self.now.entries.items c.args.self.now.levels.items (net.literals_of c.args.net.now)
    c.args.literals.now (net.literals_of c.add_all.new.net) c.requires.state
    c.requires.stand c.in_ok-add_all.field-0 c.in-Some.cycle c.in-Some.is
    c.in_ok-add_all.ensures.added
