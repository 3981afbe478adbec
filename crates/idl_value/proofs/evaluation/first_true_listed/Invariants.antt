use Rattle.std.proofs.Common.{◌≡◌, drop}
use Rattle.idl_node.specs.Truth.{point_values, truth, AreTruths, BeginsWith}
use Rattle.idl_value.specs.code.Evaluating.{first_value}
use Rattle.idl_value.proofs.evaluation.first_true_listed.Given as goal

abbrev pub invariant-loop-case : goal.invariant-loop-case
invariant-loop-case l = record {
  rest : first_value (truth l.nodes (point_values l.values)) (point_values l.values) l.cases ≡ first_value (truth l.nodes (point_values l.values)) (point_values l.values) (drop l.case-index l.cases);
  marks : AreTruths l.nodes (point_values l.values) l.marks.items;
  front : BeginsWith l.marks.items l.fn.marks.items;
}
