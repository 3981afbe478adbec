use Rattle.std.proofs.Common.{◌≡◌, ◌++◌, map, drop, take}
use Rattle.std.specs.Vec.{vec_len}
use Rattle.smt_sexpr.specs.Printing.{text_behind}
use Rattle.smt_sexpr.specs.Shapes.{items_of}
use Rattle.cert_text.proofs.writer.write_behind.Given as goal

abbrev pub invariant-loop-item : goal.invariant-loop-item
invariant-loop-item g l = record {
  written : l.out.items ++ text_behind (items_of (map g.T.Part.sexpr (drop l.item-index l.items))) ≡ l.fn.out.items ++ text_behind (items_of (map g.T.Part.sexpr l.items));
  front : take (vec_len l.fn.out) l.out.items ≡ l.fn.out.items;
}
