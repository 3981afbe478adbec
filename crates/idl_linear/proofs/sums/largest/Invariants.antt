use Rattle.std.proofs.Common.{◌<◌, length}
use Rattle.idl_linear.proofs.sums.largest.Given as goal

abbrev pub invariant-loop-i : goal.invariant-loop-i
invariant-loop-i l = 0 < length l.terms → l.place < length l.terms
