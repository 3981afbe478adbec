use Rattle.std.proofs.Common.{◌≡◌, ◌++◌, length}
use Rattle.refute_tree.specs.Lengths.{lengthened}
use Rattle.refute_tree.proofs.lengths.lengthen.Given as goal

abbrev pub invariant-loop-step : goal.invariant-loop-step
invariant-loop-step l = l.steps ++ lengthened l.problem.clauses l.reader ≡ lengthened l.problem.clauses l.lemma.steps

abbrev pub decreases-loop-step : goal.decreases-loop-step
decreases-loop-step l = length l.reader
