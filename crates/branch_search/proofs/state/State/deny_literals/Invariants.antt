use Rattle.branch_search.specs.code.Search.{IsSearch}
use Rattle.branch_search.proofs.state.State.deny_literals.Given as goal

abbrev pub invariant-denials : goal.invariant-denials
invariant-denials g l = record {
  state : IsSearch l.task l.self.own.items l.self.entries.items l.self.levels.items (g.N.Net.literals_of l.net);
}
