use Rattle.std.proofs.Common.{All, length}
use Rattle.std.specs.Prelude.{◌↔◌}
use Rattle.refute_tree.specs.Batches.{NamesOver}
use Rattle.book_judge.proofs.limits.names_over.Given as goal

abbrev pub invariant-loop-step : goal.invariant-loop-step
invariant-loop-step l = All (NamesOver l.points) l.reader ↔ All (NamesOver l.points) l.steps

abbrev pub decreases-loop-step : goal.decreases-loop-step
decreases-loop-step l = length l.reader
