use Rattle.std.proofs.Common.{sym, subst, List, ℕ}
use Rattle.best_values.specs.Bests.{IsFreeSet}
use Rattle.best_bound.proofs.hearing.unbounded.Goals as goal

pub returns : goal.returns
returns c = record {
  solution = c.requires.descent.opening.incumbent.solution;
  free = subst (IsFreeSet c.args.problem.now c.args.x c.args.y c.args.descent.incumbent.schedule) (sym c.new.ensures) c.in_ok-set.ensures;
}
