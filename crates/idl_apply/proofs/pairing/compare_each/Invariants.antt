use Rattle.std.proofs.Common.{◌≡◌, [], length, take, drop}
use Rattle.idl_cases.specs.code.CaseSums.{summed_cases}
use Rattle.idl_apply.specs.code.Pairing.{each_related}
use Rattle.idl_apply.proofs.pairing.compare_each.Given as goal

abbrev pub invariant-loop-place : goal.invariant-loop-place
invariant-loop-place l = record {
  rest : each_related l.relation l.fn.nodes [] (summed_cases l.difference) ≡ each_related l.relation l.nodes l.parts.items (drop l.place (summed_cases l.difference));
  front : take (length l.fn.nodes) l.nodes ≡ l.fn.nodes;
}
