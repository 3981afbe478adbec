use Rattle.std.proofs.Common.{All}
use Rattle.stn_core.specs.Literal.{IsOver}
use Rattle.reduction_tests.proofs.reductions.problem_of.Given as goal

abbrev pub invariant-loop-pair : goal.invariant-loop-pair
invariant-loop-pair l = All (λ clause. All (IsOver 5) clause) l.all.items
