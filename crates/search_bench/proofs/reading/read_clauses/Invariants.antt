use Rattle.std.proofs.Common.{All}
use Rattle.stn_core.specs.Literal.{IsOver}
use Rattle.search_bench.proofs.reading.read_clauses.Given as goal

abbrev pub invariant-clauses : goal.invariant-clauses
invariant-clauses l = All (λ clause. All (IsOver l.points) clause) l.clauses.items
