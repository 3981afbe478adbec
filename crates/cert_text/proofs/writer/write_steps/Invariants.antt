use Rattle.std.proofs.Common.{◌≡◌, ◌++◌, map, take, length}
use Rattle.std.specs.Vec.{vec_len}
use Rattle.smt_sexpr.specs.Printing.{text_behind}
use Rattle.smt_sexpr.specs.Shapes.{items_of}
use Rattle.cert_text.specs.Form.{step_sexpr}
use Rattle.cert_text.proofs.writer.write_steps.Given as goal

abbrev pub invariant-loop-step : goal.invariant-loop-step
invariant-loop-step l = record {
  written : l.out.items ++ text_behind (items_of (map step_sexpr l.reader)) ≡ l.fn.out.items ++ text_behind (items_of (map step_sexpr l.fn.reader));
  front : take (vec_len l.fn.out) l.out.items ≡ l.fn.out.items;
}

abbrev pub decreases-loop-step : goal.decreases-loop-step
decreases-loop-step l = length l.reader
