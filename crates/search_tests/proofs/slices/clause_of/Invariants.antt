use Rattle.std.proofs.Common.{All}
use Rattle.stn_core.specs.Literal.{IsOver}
use Rattle.search_tests.proofs.slices.clause_of.Given as goal

abbrev pub invariant-loop-l : goal.invariant-loop-l
invariant-loop-l l = record { over : All (IsOver l.points) l.kept.items }
