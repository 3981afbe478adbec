use Rattle.std.proofs.Common.{◌≡◌, ◌++◌, length, take}
use Rattle.idl_linear.proofs.linear_sum.push_all.Given as goal

abbrev pub invariant-loop-summand : goal.invariant-loop-summand
invariant-loop-summand l = record {
  same : l.list.items ++ l.cursor ≡ l.fn.list.items ++ l.fn.cursor;
  front : take (length l.fn.list.items) l.list.items ≡ l.fn.list.items;
}

abbrev pub decreases-loop-summand : goal.decreases-loop-summand
decreases-loop-summand l = length l.cursor
