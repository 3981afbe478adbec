use Rattle.std.proofs.Common.{sym, subst, List, ℤ}
use Rattle.stn_core.specs.Problem.{ProblemHolds}
use Rattle.better_schedules.proofs.Descending.{opening}
use Rattle.better_schedules.proofs.incumbent.opened.Goals as goal

pub flattened-requires-clause-holds : goal.flattened-requires-clause-holds
flattened-requires-clause-holds c = subst (λ (vs : List ℤ). ProblemHolds vs c.args.problem.now.clauses) (sym c.as_slice.ensures) c.requires.solution.holds

pub returns : goal.returns
returns c = opening c.args.problem.now c.args.x c.args.y c.in_ok-flat.flat c.in_ok-incumbent.incumbent c.requires.x_in c.requires.y_in c.in_ok-flat.ensures c.in_ok-incumbent.ensures
