use Rattle.std.proofs.Common.{◌≡◌, ℕ, ◌<◌, ◌≤◌, min, true}
use Rattle.net_batch.specs.Batches.{IsPart, IsMarkedRisen, is_marked}
use Rattle.stn_core.specs.Limits.{adds_limit}
use Rattle.net_batch.proofs.add.add_in_order.Given as goal

abbrev pub invariant-first : goal.invariant-first
invariant-first g l =
    let net = g.N.Net in
    record {
      points : net.points_of l.net ≡ net.points_of l.fn.net;
      counts : min (net.adds_of l.fn.net) adds_limit ≤ net.adds_of l.net;
      risen : IsMarkedRisen (net.literals_of l.fn.net) l.literals (net.adds_of l.fn.net) l.marks.items (net.literals_of l.net) (net.adds_of l.net);
      part : IsPart (net.literals_of l.fn.net) l.literals l.marks.items (net.literals_of l.net);
    }

abbrev pub invariant-others : goal.invariant-others
invariant-others g l =
    let net = g.N.Net in
    record {
      points : net.points_of l.net ≡ net.points_of l.fn.net;
      counts : min (net.adds_of l.fn.net) adds_limit ≤ net.adds_of l.net;
      risen : IsMarkedRisen (net.literals_of l.fn.net) l.literals (net.adds_of l.fn.net) l.marks.items (net.literals_of l.net) (net.adds_of l.net);
      part : IsPart (net.literals_of l.fn.net) l.literals l.marks.items (net.literals_of l.net);
      marked : (j : ℕ) → j < l.place → is_marked l.marks.items j ≡ true;
    }
