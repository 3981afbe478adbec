use Rattle.book_search.specs.code.Base.{IsBase}
use Rattle.book_search.proofs.units.Units.along.Given as goal

abbrev pub invariant-loop-number : goal.invariant-loop-number
invariant-loop-number l = record { base : IsBase l.clauses l.units }
