use Rattle.std.proofs.Common.{◌≡◌, ◌∷◌, [], ◌++◌, length, take, drop}
use Rattle.idl_node.specs.Making.{implied}
use Rattle.idl_node.proofs.nodes.Nodes.add_implication.Given as goal

abbrev pub invariant-loop-premise : goal.invariant-loop-premise
invariant-loop-premise l = record {
  rest : implied l.fn.self [] l.members ≡ implied l.self l.alternatives.items (drop l.premise-index l.premises ++ l.last ∷ []);
  front : take (length l.fn.self) l.self ≡ l.fn.self;
}
