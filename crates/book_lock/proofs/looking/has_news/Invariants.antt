use Rattle.std.proofs.Common.{length, ◌-◌, ◌≤◌}
use Rattle.book_lock.proofs.looking.has_news.Given as goal

abbrev pub invariant-loop-k : goal.invariant-loop-k
invariant-loop-k l = l.fn.from ≤ l.k

abbrev pub decreases-loop-k : goal.decreases-loop-k
decreases-loop-k l = length l.events - l.k
