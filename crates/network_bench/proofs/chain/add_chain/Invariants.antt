use Rattle.std.proofs.Common.{◌≡◌}
use Rattle.network_bench.specs.declared.chain.TheConstants.{CHAIN_POINTS}
use Rattle.network_bench.proofs.chain.add_chain.Given as goal

abbrev pub invariant-links : goal.invariant-links
invariant-links g l = g.N.Net.points_of l.net ≡ CHAIN_POINTS
