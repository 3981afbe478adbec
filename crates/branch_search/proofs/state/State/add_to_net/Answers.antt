use Rattle.branch_search.proofs.States.{added_by, refused_by}
use Rattle.branch_search.proofs.Proposals.{stands_at}
use Rattle.branch_search.proofs.state.State.add_to_net.Goals as goal

pub returns-in-Yes-clause-after : goal.returns-in-Yes-clause-after
returns-in-Yes-clause-after g c =
    let es = c.args.self.now.entries.items in
    let net = g.N.Net in
    added_by c.args.task.now
    c.args.self.now.own.items (net.points_of c.args.net.now) es c.args.self.now.levels.items
    (net.literals_of c.args.net.now) (net.literals_of c.add.new.self) c.literal_on.result c.in_ok-add.field-0
    c.in_ok-add.ensures.ok c.in-Yes.is c.requires.state (stands_at es _ c.args.k _ c.deref.ensures.value c.requires.within c.literal_on.ensures)

pub returns-in-Cycle-clause-after : goal.returns-in-Cycle-clause-after
returns-in-Cycle-clause-after g c =
    let es = c.args.self.now.entries.items in
    let net = g.N.Net in
    refused_by c.args.task.now
    c.args.self.now.own.items (net.points_of c.args.net.now) es c.args.self.now.levels.items
    (net.literals_of c.args.net.now) (net.literals_of c.add.new.self) c.in-Cycle.cycle c.literal_on.result
    c.in_ok-add.field-0 c.in_ok-add.ensures.ok c.in-Cycle.is c.requires.state
    (stands_at es _ c.args.k _ c.deref.ensures.value c.requires.within c.literal_on.ensures)
