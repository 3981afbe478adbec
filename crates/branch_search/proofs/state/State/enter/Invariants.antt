use Rattle.std.proofs.Common.{◌≡◌, ◌≤◌, min, take, []}
use Rattle.branch_search.specs.code.Search.{IsSearch, HasNoClause}
use Rattle.stn_core.specs.Limits.{adds_limit}
use Rattle.branch_search.proofs.state.State.enter.Given as goal

abbrev pub invariant-literals : goal.invariant-literals
invariant-literals g l =
    let net = g.N.Net in
    let q = l.task in
    record {
      points : net.points_of l.net ≡ net.points_of l.fn.net;
      levels : l.self.levels.items ≡ [];
      state : IsSearch q l.self.own.items l.self.entries.items l.self.levels.items (net.literals_of l.net);
      plain : HasNoClause l.self.entries.items;
      literals : net.literals_of l.net ≡ take l.l-index l.cube;
      counts : min (net.adds_of l.fn.net) adds_limit ≤ net.adds_of l.net;
    }
