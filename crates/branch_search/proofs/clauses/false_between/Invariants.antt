use Rattle.branch_search.specs.code.Clauses.{HoldBetween}
use Rattle.branch_search.proofs.clauses.false_between.Given as goal

abbrev pub invariant-loop-i : goal.invariant-loop-i
invariant-loop-i l = record { hold : HoldBetween l.values l.clauses l.fn.low l.i }
