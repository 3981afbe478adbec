use Rattle.std.proofs.Common.{take, All}
use Rattle.best_values.specs.Bests.{ClauseIsKept}
use Rattle.best_values.proofs.free_set.first_not_kept.Given as goal

abbrev pub invariant-loop-number : goal.invariant-loop-number
invariant-loop-number l = All (ClauseIsKept l.values l.set) (take l.number l.problem.clauses)
