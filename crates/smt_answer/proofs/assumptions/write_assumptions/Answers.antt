use Rattle.std.proofs.Common.{◌++◌, map, ◌∙◌, arith, List, ℕ}
use Rattle.std.proofs.lemmas.Result.{on_ok_weaker}
use Rattle.smt_sexpr.specs.Tree.{Items, list}
use Rattle.smt_sexpr.specs.Printing.{text_of}
use Rattle.smt_sexpr.specs.Shapes.{items_of}
use Rattle.smt_script.specs.code.Shapes.{shown_literal}
use Rattle.smt_answer.specs.Texts.{cited_items}
use Rattle.smt_answer.specs.code.Answers.{is_marked}
use Rattle.smt_answer.proofs.Fronts.{front_kept}
use Rattle.smt_answer.proofs.Literals.{written_more, written_not, written_all, list_closed}
use Rattle.smt_answer.proofs.assumptions.write_assumptions.Goals.{then-is_cited+in_ok-is_first, else-is_cited}
use Rattle.smt_answer.proofs.assumptions.write_assumptions.Goals as goal

pub loop-number-preserved : goal.loop-number-preserved
loop-number-preserved c =
    let marks = c.args.cited.now in
    let ls = c.args.literals.now in
    let items : Items = cited_items (is_marked marks) 0 (items_of (map shown_literal ls)) in
    let whole : List ℕ = c.args.out.now.items ++ text_of (list items) in
    elim c.if-is_cited.branch [
      | then-is_cited+in_ok-is_first w ↦ rw (w.out-is, w.is_first-is) (record {
        written = written_more marks ls whole c.loop-number.out.items w.write_found.new.out.items c.loop-number.is_first w.in_ok-is_first.is_first c.loop-number.number _ w.get.ensures.lookup w.if-is_cited.true w.in_ok-is_first.ensures.ok
            c.loop-number.invariant.written;
        front = front_kept _ _ _ _ _ (omega arith) (omega arith) c.loop-number.invariant.front w.in_ok-is_first.ensures.front;
      })
      | else-is_cited w ↦ rw (w.out-is, w.is_first-is) (record {
        written = written_not marks ls whole c.loop-number.out.items c.loop-number.is_first c.loop-number.number w.if-is_cited.false c.loop-number.invariant.written;
        front = c.loop-number.invariant.front;
      })
    ]

pub returns-clause-ok : goal.returns-clause-ok
returns-clause-ok c =
    let marks = c.args.cited.now in
    let ls = c.args.literals.now in
    let items : Items = cited_items (is_marked marks) 0 (items_of (map shown_literal ls)) in
    let whole : List ℕ = c.args.out.now.items ++ text_of (list items) in
    on_ok_weaker c.push_str-2.result
    (λ e. e ∙ list_closed c.args.out.now.items c.loop-number.out.items c.loop-number.is_first items
    (written_all marks ls whole c.loop-number.out.items c.loop-number.is_first c.loop-number.number (omega arith) c.loop-number.invariant.written))
    c.push_str-2.ensures.ok
