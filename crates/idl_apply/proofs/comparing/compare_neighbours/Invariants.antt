use Rattle.std.proofs.Common.{◌≡◌, [], ◌-◌, length, take, drop}
use Rattle.idl_node.specs.Making.{neighbours}
use Rattle.idl_apply.specs.Comparing.{each_compared}
use Rattle.idl_apply.proofs.Arguments.{seen}
use Rattle.idl_apply.proofs.comparing.compare_neighbours.Given as goal

abbrev pub invariant-loop-i : goal.invariant-loop-i
invariant-loop-i l = record {
  rest : each_compared l.relation l.fn.nodes [] (neighbours (seen l.terms)) ≡ each_compared l.relation l.nodes l.parts.items (neighbours (seen (drop (l.i - 1) l.terms)));
  front : take (length l.fn.nodes) l.nodes ≡ l.fn.nodes;
}
