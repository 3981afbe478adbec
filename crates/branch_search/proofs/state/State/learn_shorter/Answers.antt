use Rattle.std.proofs.Common.{true}
use Rattle.branch_search.proofs.Learned.{search_grown}
use Rattle.branch_search.proofs.state.State.learn_shorter.Goals as goal

pub returns : goal.returns
returns g c = record {
  state = search_grown c.args.task.now c.args.self.now.own.items _ _ c.in_ok-lemma.lemma c.args.self.now.entries.items _ c.args.self.now.levels.items _
      (g.N.Net.literals_of c.args.net.now) true
      c.in_ok-lemma.ensures.own c.in_ok-lemma.ensures.entries c.in_ok-lemma.ensures.levels c.in_ok-push.ensures.items
      c.in_ok-lemma.ensures.taught c.requires.stuck.state;
}
