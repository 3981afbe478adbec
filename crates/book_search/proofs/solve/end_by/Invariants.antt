use Rattle.std.proofs.Common.{◌≡◌}
use Rattle.book_core.specs.Ends.{left_in}
use Rattle.book_search.specs.code.Deliveries.{IsWaiting}
use Rattle.book_search.proofs.solve.end_by.Given as goal

abbrev pub invariant-turns : goal.invariant-turns
invariant-turns l = record {
  waiting : IsWaiting l.problem l.book;
  opening : l.book.opening ≡ l.fn.book.opening;
  points : l.tools ≡ l.problem.points;
}

-- each turn but the last leaves less to do
abbrev pub decreases-turns : goal.decreases-turns
decreases-turns l = left_in l.book
