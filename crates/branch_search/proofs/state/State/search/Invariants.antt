use Rattle.std.proofs.Common.{◌≡◌, ◌≤◌, min, length}
use Rattle.branch_search.specs.code.Search.{IsSearch}
use Rattle.stn_core.specs.Limits.{adds_limit}
use Rattle.branch_search.specs.code.Turns.{weight}
use Rattle.branch_search.proofs.state.State.search.Given as goal

abbrev pub invariant-turns : goal.invariant-turns
invariant-turns g l =
    let net = g.N.Net in
    let q = l.task in
    record {
      points : net.points_of l.net ≡ net.points_of l.fn.net;
      state : IsSearch q l.self.own.items l.self.entries.items l.self.levels.items (net.literals_of l.net);
      counts : min (net.adds_of l.fn.net) adds_limit ≤ net.adds_of l.net;
    }

abbrev pub decreases-turns : goal.decreases-turns
decreases-turns g l = weight l.left.decisions (length l.self.levels.items)
