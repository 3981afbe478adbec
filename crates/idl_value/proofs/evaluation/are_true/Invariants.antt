use Rattle.std.proofs.Common.{◌≡◌, drop}
use Rattle.std.specs.List.{list_all}
use Rattle.idl_node.specs.Truth.{point_values, truth, AreTruths, BeginsWith}
use Rattle.idl_value.proofs.evaluation.are_true.Given as goal

abbrev pub invariant-loop-guard : goal.invariant-loop-guard
invariant-loop-guard l = record {
  rest : list_all (truth l.nodes (point_values l.values)) l.guards ≡ list_all (truth l.nodes (point_values l.values)) (drop l.guard-index l.guards);
  marks : AreTruths l.nodes (point_values l.values) l.marks.items;
  front : BeginsWith l.marks.items l.fn.marks.items;
}
