use Rattle.std.proofs.Common.{◌+◌, ◌-◌, ℕ}
use Rattle.std.specs.Vec.{vec_len}
use Rattle.idl_node.specs.Truth.{point_values, AreTruths, BeginsWith}
use Rattle.idl_node.proofs.truth.mark_up_to.Given as goal

abbrev pub invariant-nodes : goal.invariant-nodes
invariant-nodes l = record {
  marks : AreTruths l.nodes (point_values l.values) l.marks.items;
  front : BeginsWith l.marks.items l.fn.marks.items;
}

abbrev pub decreases-nodes : goal.decreases-nodes
decreases-nodes l = l.last + 1 - vec_len l.marks
