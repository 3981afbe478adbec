use Rattle.std.proofs.Common.{sym, subst, List, ℤ}
use Rattle.stn_core.specs.Problem.{ProblemHolds}
use Rattle.best_values.specs.Bests.{IsFreeSet}
use Rattle.better_schedules.proofs.Descending.{too_low}
use Rattle.better_schedules.proofs.descent.Descent.free_set.Goals as goal

pub unbounded_set-requires-clause-holds : goal.unbounded_set-requires-clause-holds
unbounded_set-requires-clause-holds c = subst (λ (vs : List ℤ). ProblemHolds vs c.args.problem.now.clauses) (sym c.as_slice.ensures) c.requires.descent.opening.incumbent.solution.holds

pub unbounded_set-requires-clause-low : goal.unbounded_set-requires-clause-low
unbounded_set-requires-clause-low c = too_low c.args.problem.now c.args.x c.args.y c.args.self.now.incumbent c.as_slice.result.now c.requires.descent.opening.incumbent c.as_slice.ensures c.requires.low

pub returns : goal.returns
returns c = subst (λ (vs : List ℤ). IsFreeSet c.args.problem.now c.args.x c.args.y vs c.in_ok-set.set.items) c.as_slice.ensures c.in_ok-set.ensures
