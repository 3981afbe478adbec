use Rattle.std.proofs.Common.{All, length}
use Rattle.refute_tree.specs.Batches.{RefersBelow}
use Rattle.book_tests.proofs.moves.refers_below.Given as goal

abbrev pub invariant-loop-step : goal.invariant-loop-step
invariant-loop-step l = All (RefersBelow l.limit) l.reader → All (RefersBelow l.limit) l.lemma.steps

abbrev pub decreases-loop-step : goal.decreases-loop-step
decreases-loop-step l = length l.reader
