use Rattle.std.proofs.Common.{◌≡◌, ◌+◌, length}
use Rattle.cert_check.proofs.check.last_read.Given as goal

abbrev pub invariant-left : goal.invariant-left
invariant-left l = l.number + 1 + length l.reader ≡ l.count + length l.left

abbrev pub decreases-left : goal.decreases-left
decreases-left l = length l.left
