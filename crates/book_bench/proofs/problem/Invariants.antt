use Rattle.std.proofs.Common.{All}
use Rattle.stn_core.specs.Literal.{IsOver}
use Rattle.book_bench.proofs.problem.Given as goal

abbrev pub invariant-levels : goal.invariant-levels
invariant-levels l = All (λ clause. All (IsOver 3) clause) l.clauses.items
