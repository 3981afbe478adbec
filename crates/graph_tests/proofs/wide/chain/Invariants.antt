use Rattle.std.proofs.Common.{All}
use Rattle.stn_core.specs.Literal.{IsOver}
use Rattle.graph_tests.specs.declared.wide.TheConstants.{POINTS}
use Rattle.graph_tests.proofs.wide.chain.Given as goal

abbrev pub invariant-links : goal.invariant-links
invariant-links l = All (IsOver POINTS) l.literals.items
