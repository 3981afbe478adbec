use Rattle.std.proofs.Common.{◌≡◌, ◌++◌, drop, take}
use Rattle.std.specs.Vec.{vec_len}
use Rattle.smt_answer.specs.Texts.{definition_lines}
use Rattle.smt_answer.proofs.values.write_definitions.Given as goal

abbrev pub invariant-loop-i : goal.invariant-loop-i
invariant-loop-i l = record {
  written : l.out.items ++ definition_lines (drop l.i l.names) (drop l.i l.values) ≡ l.fn.out.items ++ definition_lines l.names l.values;
  front : take (vec_len l.fn.out) l.out.items ≡ l.fn.out.items;
}
