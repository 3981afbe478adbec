use Rattle.std.proofs.Common.{◌≡◌, length, take, drop}
use Rattle.idl_node.specs.Making.{exclusive}
use Rattle.idl_node.proofs.nodes.Nodes.add_exclusion.Given as goal

abbrev pub invariant-loop-other : goal.invariant-loop-other
invariant-loop-other l = record {
  rest : exclusive l.fn.self l.first l.others ≡ exclusive l.self l.number (drop l.other-index l.others);
  front : take (length l.fn.self) l.self ≡ l.fn.self;
}
