use Rattle.std.proofs.Common.{◌≡◌, ◌++◌, take}
use Rattle.std.specs.Vec.{vec_len}
use Rattle.smt_answer.specs.Texts.{cited_names, core_line}
use Rattle.smt_answer.specs.code.Answers.{is_marked}
use Rattle.smt_answer.proofs.Cores.{IsNamedTo}
use Rattle.smt_answer.proofs.names.write_core.Given as goal

abbrev pub invariant-loop-number : goal.invariant-loop-number
invariant-loop-number l = record {
  named : IsNamedTo l.cited l.state.labels (l.fn.out.items ++ core_line (cited_names (is_marked l.cited) 0 l.state.labels)) l.out.items l.is_first l.number;
  front : take (vec_len l.fn.out) l.out.items ≡ l.fn.out.items;
}
