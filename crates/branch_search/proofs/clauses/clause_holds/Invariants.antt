use Rattle.std.proofs.Common.{take}
use Rattle.branch_search.specs.code.Clauses.{IsFalse}
use Rattle.branch_search.proofs.clauses.clause_holds.Given as goal

abbrev pub invariant-loop-literal : goal.invariant-loop-literal
invariant-loop-literal l = record { fails : IsFalse l.values (take l.literal-index l.clause) }
