use Rattle.std.proofs.Common.{ℕ, ◌<◌, get_or}
use Rattle.idl_node.proofs.repeated.are_below.Given as goal

abbrev pub invariant-loop-member : goal.invariant-loop-member
invariant-loop-member l = record {
  below : (k : ℕ) → k < l.member-index → get_or l.members k 0 < l.count;
}
