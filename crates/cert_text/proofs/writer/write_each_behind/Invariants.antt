use Rattle.std.proofs.Common.{◌≡◌, ◌++◌, map, drop, take}
use Rattle.std.specs.Vec.{vec_len}
use Rattle.smt_sexpr.specs.Printing.{text_behind}
use Rattle.smt_sexpr.specs.Shapes.{items_of}
use Rattle.refute_tree.specs.code.Views.{literals_of}
use Rattle.cert_text.specs.Form.{literal_sexpr}
use Rattle.cert_text.proofs.writer.write_each_behind.Given as goal

abbrev pub invariant-loop-place : goal.invariant-loop-place
invariant-loop-place l = record {
  written : l.out.items ++ text_behind (items_of (map literal_sexpr (drop l.place (literals_of l.cycle)))) ≡ l.fn.out.items ++ text_behind (items_of (map literal_sexpr (literals_of l.cycle)));
  front : take (vec_len l.fn.out) l.out.items ≡ l.fn.out.items;
}
