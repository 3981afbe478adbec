use Rattle.std.proofs.Common.{All, take}
use Rattle.stn_core.specs.Problem.{ClauseHolds}
use Rattle.book_search.proofs.clauses.all_hold.Given as goal

abbrev pub invariant-loop-clause : goal.invariant-loop-clause
invariant-loop-clause l = All (ClauseHolds l.values) (take l.clause-index l.clauses)
