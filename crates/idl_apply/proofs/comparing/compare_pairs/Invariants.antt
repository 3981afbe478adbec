use Rattle.std.proofs.Common.{◌≡◌, [], length, take, drop}
use Rattle.idl_node.specs.Making.{pairs}
use Rattle.idl_node.specs.code.Repeats.{AreRows, HasRepeats}
use Rattle.idl_apply.specs.Comparing.{each_compared}
use Rattle.idl_apply.specs.code.Repeats.{AreCompared}
use Rattle.idl_apply.proofs.Arguments.{seen}
use Rattle.idl_apply.proofs.comparing.compare_pairs.Given as goal

abbrev pub invariant-loop-i : goal.invariant-loop-i
invariant-loop-i l = record {
  rest : each_compared l.all.relation l.fn.nodes [] (pairs (seen l.all.terms.now)) ≡ each_compared l.all.relation l.nodes l.parts.items (pairs (drop l._i (seen l.all.terms.now)));
  front : take (length l.fn.nodes) l.nodes ≡ l.fn.nodes;
  count : length l.starts.items ≡ l._i;
  rows : AreRows (HasRepeats l.all.earlier.now) (AreCompared l.all.relation l.nodes) (seen l.all.terms.now) l.starts.items l.parts.items;
}
