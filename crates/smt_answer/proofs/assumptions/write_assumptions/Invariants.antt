use Rattle.std.proofs.Common.{◌≡◌, ◌++◌, take, map}
use Rattle.std.specs.Vec.{vec_len}
use Rattle.smt_sexpr.specs.Tree.{list}
use Rattle.smt_sexpr.specs.Printing.{text_of}
use Rattle.smt_sexpr.specs.Shapes.{items_of}
use Rattle.smt_script.specs.code.Shapes.{shown_literal}
use Rattle.smt_answer.specs.Texts.{cited_items}
use Rattle.smt_answer.specs.code.Answers.{is_marked}
use Rattle.smt_answer.proofs.Literals.{IsWrittenTo}
use Rattle.smt_answer.proofs.assumptions.write_assumptions.Given as goal

abbrev pub invariant-loop-number : goal.invariant-loop-number
invariant-loop-number l = record {
  written : IsWrittenTo l.cited l.literals (l.fn.out.items ++ text_of (list (cited_items (is_marked l.cited) 0 (items_of (map shown_literal l.literals))))) l.out.items l.is_first l.number;
  front : take (vec_len l.fn.out) l.out.items ≡ l.fn.out.items;
}
