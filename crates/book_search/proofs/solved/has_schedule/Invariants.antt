use Rattle.std.proofs.Common.{◌≡◌, ◌≤◌, length}
use Rattle.std.specs.Prelude.{is_some}
use Rattle.book_core.specs.Runs.{state_of}
use Rattle.book_search.proofs.Learned.{is_found}
use Rattle.book_search.proofs.solved.has_schedule.Given as goal

abbrev pub invariant-loop-left : goal.invariant-loop-left
invariant-loop-left l = record {
  within : l.left ≤ length l.events;
  same : is_found l.book l.events l.left ≡ is_some (state_of l.book).found;
}

abbrev pub decreases-loop-left : goal.decreases-loop-left
decreases-loop-left l = l.left
