use Rattle.std.proofs.Common.{◌≡◌, ◌≤◌, min, length, take}
use Rattle.stn_core.specs.Limits.{adds_limit}
use Rattle.branch_search.proofs.model.add_pure.Given as goal

abbrev pub invariant-numbers : goal.invariant-numbers
invariant-numbers g l =
    let net = g.N.Net in
    record {
      points : net.points_of l.net ≡ net.points_of l.fn.net;
      literals : take (length (net.literals_of l.fn.net)) (net.literals_of l.net) ≡ net.literals_of l.fn.net;
      counts : min (net.adds_of l.fn.net) adds_limit ≤ net.adds_of l.net;
    }
