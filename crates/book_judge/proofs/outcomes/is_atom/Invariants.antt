use Rattle.std.proofs.Common.{All, take}
use Rattle.book_judge.proofs.Judged.{Lacks}
use Rattle.book_judge.proofs.outcomes.is_atom.Given as goal

abbrev pub invariant-loop-clause : goal.invariant-loop-clause
invariant-loop-clause l = All (Lacks l.literal) (take l.clause-index l.problem.clauses)
