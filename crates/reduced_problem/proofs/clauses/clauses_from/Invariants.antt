use Rattle.std.proofs.Common.{take, All}
use Rattle.stn_core.specs.Literal.{IsOver}
use Rattle.reduced_problem.specs.Reduced.{AreFrom}
use Rattle.reduced_problem.proofs.clauses.clauses_from.Given as goal

abbrev pub invariant-loop-origin : goal.invariant-loop-origin
invariant-loop-origin l = record {
  from : AreFrom l.problem.clauses l.lemmas (take l.origin-index l.origins) l.clauses.items;
  over : All (λ clause. All (IsOver l.problem.points) clause) l.clauses.items;
}
