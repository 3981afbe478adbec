use Rattle.std.proofs.Common.{◌≡◌, ◌+◌, length, take}
use Rattle.smt_script.proofs.Assuming.{IsAssumedTo}
use Rattle.smt_script.proofs.lowering.assume_each.Given as goal

abbrev pub invariant-loop-term : goal.invariant-loop-term
invariant-loop-term l = record {
  assumed : IsAssumedTo l.sexprs l.terms l.scope l.fn.nodes l.fn.roots.items l.nodes l.roots.items l.term-index;
  table : take (length l.fn.nodes) l.nodes ≡ l.fn.nodes;
  front : take (length l.fn.roots.items) l.roots.items ≡ l.fn.roots.items;
  count : length l.roots.items ≡ length l.fn.roots.items + l.term-index;
}
