use Rattle.std.proofs.Common.{arith, codes, ◌++◌}
use Rattle.smt_sexpr.specs.Printing.{text_of}
use Rattle.smt_answer.proofs.Fronts.{front_behind}
use Rattle.smt_answer.proofs.Pieces.{three, five}
use Rattle.smt_answer.proofs.values.write_pair.Goals as goal

pub returns-in_err-write_value-clause-front : goal.returns-in_err-write_value-clause-front
returns-in_err-write_value-clause-front c =
    let x = c.requires.0 in
    front_behind c.args.out.now.items (codes "(" ++ (text_of x ++ codes " ")) c.push_str-2.new.self.items _ _ _ (omega arith) (omega arith)
    (three c.args.out.now.items (codes "(") (text_of x) (codes " ") _ _ _ c.in_ok-push_str.ensures.ok (c.in_ok-print.ensures.ok x c.requires.1) c.in_ok-push_str-2.ensures.ok) c.in_err-write_value.ensures.front

pub returns-clause-ok : goal.returns-clause-ok
returns-clause-ok c = λ t means.
    five c.args.out.now.items (codes "(") (text_of t) (codes " ") _ (codes ")") _ _ _ _ _ c.in_ok-push_str.ensures.ok (c.in_ok-print.ensures.ok t means) c.in_ok-push_str-2.ensures.ok c.in_ok-write_value.ensures.ok c.in_ok-push_str-3.ensures.ok
