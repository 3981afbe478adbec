use Rattle.std.proofs.Common.{◌≡◌, ◌++◌, length}
use Rattle.refute_tree.specs.Lengths.{shortened, shortened_behind}
use Rattle.refute_tree.proofs.lengths.shorten.Given as goal

abbrev pub invariant-loop-step : goal.invariant-loop-step
invariant-loop-step l = l.steps ++ shortened_behind l.problem.clauses l.skip l.reader ≡ shortened l.problem.clauses l.lemma.steps

abbrev pub decreases-loop-step : goal.decreases-loop-step
decreases-loop-step l = length l.reader
