use Rattle.std.proofs.Common.{All}
use Rattle.stn_core.specs.Literal.{IsOver}
use Rattle.search_bench.proofs.reading.read_clause.Given as goal

abbrev pub invariant-literals : goal.invariant-literals
invariant-literals l = All (IsOver l.points) l.literals.items
