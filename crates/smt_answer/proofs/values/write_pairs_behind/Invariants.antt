use Rattle.std.proofs.Common.{◌≡◌, take}
use Rattle.std.specs.Vec.{vec_len}
use Rattle.smt_answer.proofs.Pairs.{IsWrittenTo}
use Rattle.smt_answer.proofs.values.write_pairs_behind.Given as goal

abbrev pub invariant-loop-i : goal.invariant-loop-i
invariant-loop-i l = record {
  written : IsWrittenTo l.sexprs l.terms l.answers l.fn.out.items l.out.items l.i;
  front : take (vec_len l.fn.out) l.out.items ≡ l.fn.out.items;
}
