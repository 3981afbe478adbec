use Rattle.std.proofs.Common.{◌≡◌, []}
use Rattle.branch_search.specs.code.Search.{IsSearch}
use Rattle.branch_search.proofs.state.State.shorten_all.Given as goal

abbrev pub invariant-lemmas : goal.invariant-lemmas
invariant-lemmas g l =
    let net = g.N.Net in
    record {
      points : net.points_of l.net ≡ net.points_of l.fn.net;
      adds : net.adds_of l.net ≡ net.adds_of l.fn.net;
      root : l.self.levels.items ≡ [];
      state : IsSearch l.task l.self.own.items l.self.entries.items l.self.levels.items (net.literals_of l.net);
    }
