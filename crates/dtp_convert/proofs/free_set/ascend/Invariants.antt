use Rattle.std.proofs.Common.{ℕ, ◌<◌, ◌-◌, slice_index}
use Rattle.dtp_convert.proofs.free_set.ascend.Given as goal

abbrev pub invariant-loop-k : goal.invariant-loop-k
invariant-loop-k l = (j : ℕ) → j < l.k → 0 < j → slice_index l.set (j - 1) < slice_index l.set j
