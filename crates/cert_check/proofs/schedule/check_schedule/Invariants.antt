use Rattle.std.proofs.Common.{take, All}
use Rattle.stn_core.specs.Problem.{ClauseHolds}
use Rattle.cert_check.proofs.schedule.check_schedule.Given as goal

abbrev pub invariant-loop-number : goal.invariant-loop-number
invariant-loop-number l = All (ClauseHolds l.schedule) (take l.number l.problem.clauses)
