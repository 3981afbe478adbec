use Rattle.std.proofs.Common.{All}
use Rattle.stn_core.specs.Literal.{IsOver}
use Rattle.hint_tests.proofs.large_shop.shop.Given as goal

abbrev pub invariant-loop-job : goal.invariant-loop-job
invariant-loop-job l = All (λ clause. All (IsOver 226) clause) l.all.items

abbrev pub invariant-loop-job-2 : goal.invariant-loop-job-2
invariant-loop-job-2 l = All (λ clause. All (IsOver 226) clause) l.all.items

abbrev pub invariant-loop-place : goal.invariant-loop-place
invariant-loop-place l = All (λ clause. All (IsOver 226) clause) l.all.items
