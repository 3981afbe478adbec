use Rattle.std.proofs.Common.{◌≡◌, ◌≤◌, ◌<◌, ℕ, min, [], slice_index_or}
use Rattle.branch_search.specs.code.Search.{IsSearch, HasNoClause}
use Rattle.stn_core.specs.Limits.{adds_limit}
use Rattle.branch_search.specs.code.Divisions.{HasLive}
use Rattle.branch_search.proofs.state.State.check_all.Given as goal

abbrev pub invariant-loop-i : goal.invariant-loop-i
invariant-loop-i g l =
    let net = g.N.Net in
    let q = l.task in
    record {
      points : net.points_of l.net ≡ net.points_of l.fn.net;
      literals : net.literals_of l.net ≡ net.literals_of l.fn.net;
      levels : l.self.levels.items ≡ l.fn.self.levels.items;
      state : IsSearch q l.self.own.items l.self.entries.items l.self.levels.items (net.literals_of l.net);
      plain : HasNoClause l.self.entries.items;
      live : (k : ℕ) → k < l.i
          → HasLive l.task.problem.points (net.literals_of l.fn.net) (slice_index_or l.task.problem.clauses k []);
      counts : min (net.adds_of l.fn.net) adds_limit ≤ net.adds_of l.net;
    }
