use Rattle.std.proofs.Common.{◌≡◌}
use Rattle.branch_search.specs.code.Search.{IsSearch}
use Rattle.branch_search.proofs.state.State.take_inputs.Given as goal

abbrev pub invariant-clauses : goal.invariant-clauses
invariant-clauses g l =
    let q = l.task in
    record {
      levels : l.self.levels.items ≡ l.fn.self.levels.items;
      state : IsSearch q l.self.own.items l.self.entries.items l.self.levels.items (g.N.Net.literals_of l.net);
    }
