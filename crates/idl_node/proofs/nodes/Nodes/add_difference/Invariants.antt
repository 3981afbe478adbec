use Rattle.std.proofs.Common.{◌≡◌, length, take, drop}
use Rattle.idl_node.specs.Making.{all_different, each_pair, different, pairs}
use Rattle.idl_node.specs.code.Repeats.{AreRows, AreToldApart, HasRepeats}
use Rattle.idl_node.proofs.nodes.Nodes.add_difference.Given as goal

abbrev pub invariant-loop-i : goal.invariant-loop-i
invariant-loop-i l = record {
  rest : all_different l.fn.self l.members ≡ each_pair different l.self l.parts.items (pairs (drop l._i l.members));
  front : take (length l.fn.self) l.self ≡ l.fn.self;
  count : length l.starts.items ≡ l._i;
  rows : AreRows (HasRepeats l.earlier.items) (AreToldApart l.self) l.members l.starts.items l.parts.items;
}
