use Rattle.std.proofs.Common.{◌≡◌}
use Rattle.graph_tests.specs.declared.wide.TheConstants.{POINTS}
use Rattle.graph_tests.proofs.wide.add_all.Given as goal

abbrev pub invariant-links : goal.invariant-links
invariant-links g l = g.N.Net.points_of l.net ≡ POINTS
