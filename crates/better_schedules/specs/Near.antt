-- Schedules near 0.
use Rattle.std.specs.Prelude.{◌*◌, ℤ, pos}
use Rattle.stn_core.specs.declared.problem.Problem.{Problem}
use Rattle.best_values.specs.Widths.{width_of}

-- the greatest difference of two values of points that bounds lead to one another
abbrev pub span : Problem → ℤ
span problem = pos (problem.points * width_of problem.clauses)
