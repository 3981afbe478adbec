use Rattle.std.proofs.Common.{◌≡◌, ◌-◌}
use Rattle.network_bench.proofs.search.Given as goal

abbrev pub invariant-second : goal.invariant-second
invariant-second l = l.net.points ≡ 60000

abbrev pub decreases-second : goal.decreases-second
decreases-second l = 1000000 - l.done
