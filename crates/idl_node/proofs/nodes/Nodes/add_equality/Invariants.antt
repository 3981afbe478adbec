use Rattle.std.proofs.Common.{◌≡◌, ◌-◌, length, take, drop}
use Rattle.idl_node.specs.Making.{all_equal, each_pair, equal, neighbours}
use Rattle.idl_node.proofs.nodes.Nodes.add_equality.Given as goal

abbrev pub invariant-loop-i : goal.invariant-loop-i
invariant-loop-i l = record {
  rest : all_equal l.fn.self l.members ≡ each_pair equal l.self l.parts.items (neighbours (drop (l.i - 1) l.members));
  front : take (length l.fn.self) l.self ≡ l.fn.self;
}
