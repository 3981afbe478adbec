use Rattle.std.proofs.Common.{◌≡◌, ◌≤◌, ◌-◌, length}
use Rattle.branch_search.proofs.slicing.spend.Given as goal

abbrev pub invariant-adds : goal.invariant-adds
invariant-adds g l =
    let net = g.N.Net in
    record {
      points : net.points_of l.net ≡ net.points_of l.fn.net;
      mark : l.mark.length ≤ length (net.literals_of l.net);
    }

abbrev pub decreases-adds : goal.decreases-adds
decreases-adds g l = l.target - g.N.Net.adds_of l.net
