use Rattle.std.proofs.Common.{◌≡◌}
use Rattle.network_bench.proofs.random_work.Given as goal

abbrev pub invariant-first : goal.invariant-first
invariant-first l = l.net.points ≡ 60000
