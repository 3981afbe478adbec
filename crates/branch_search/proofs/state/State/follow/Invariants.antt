use Rattle.std.proofs.Common.{◌≡◌, ◌<◌, length}
use Rattle.branch_search.specs.code.Search.{IsSearch}
use Rattle.branch_search.proofs.state.State.follow.Given as goal

abbrev pub invariant-proposals : goal.invariant-proposals
invariant-proposals g l =
    let q = l.task in
    record {
      within : l.k < length l.self.entries.items;
      levels : l.self.levels.items ≡ l.fn.self.levels.items;
      state : IsSearch q l.self.own.items l.self.entries.items l.self.levels.items (g.N.Net.literals_of l.net);
    }
