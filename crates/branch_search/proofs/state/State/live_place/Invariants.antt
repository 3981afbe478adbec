use Rattle.std.proofs.Common.{◌≡◌, ◌≤◌, ◌<◌, ℕ, min, length}
use Rattle.stn_core.specs.Literal.{negation_of, literal_at}
use Rattle.conflict_analysis.specs.code.Trails.{Stands}
use Rattle.branch_search.specs.code.Search.{IsSearch, HasNoClause}
use Rattle.stn_core.specs.Limits.{adds_limit}
use Rattle.branch_search.proofs.state.State.live_place.Given as goal

abbrev pub invariant-loop-q : goal.invariant-loop-q
invariant-loop-q g l =
    let net = g.N.Net in
    let q = l.task in
    record {
      points : net.points_of l.net ≡ net.points_of l.fn.net;
      literals : net.literals_of l.net ≡ net.literals_of l.fn.net;
      levels : l.self.levels.items ≡ l.fn.self.levels.items;
      own : l.self.own.items ≡ l.fn.self.own.items;
      state : IsSearch q l.self.own.items l.self.entries.items l.self.levels.items (net.literals_of l.net);
      plain : HasNoClause l.self.entries.items;
      denied : (i : ℕ) → i < l.q
          → Stands l.self.entries.items (length l.self.entries.items) (negation_of (literal_at l.clause i));
      counts : min (net.adds_of l.fn.net) adds_limit ≤ net.adds_of l.net;
    }
