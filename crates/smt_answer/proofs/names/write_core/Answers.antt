use Rattle.std.proofs.Common.{◌++◌, ◌∙◌, ap, sym, arith, List, ℕ}
use Rattle.std.proofs.lemmas.Result.{on_ok_weaker}
use Rattle.smt_answer.specs.Texts.{cited_names, core_line}
use Rattle.smt_answer.specs.code.Answers.{is_marked}
use Rattle.smt_answer.proofs.Fronts.{front_kept}
use Rattle.smt_answer.proofs.Cores.{named_more, named_not, named_all, ends_line}
use Rattle.smt_answer.proofs.names.write_core.Goals.{then-is_cited+in_ok-is_first, else-is_cited}
use Rattle.smt_answer.proofs.names.write_core.Goals as goal

pub loop-number-preserved : goal.loop-number-preserved
loop-number-preserved c =
    let marks = c.args.cited.now in
    let labels = c.args.state.now.labels in
    let whole : List ℕ = c.args.out.now.items ++ core_line (cited_names (is_marked marks) 0 labels) in
    elim c.if-is_cited.branch [
      | then-is_cited+in_ok-is_first w ↦ rw (w.out-is, w.is_first-is) (record {
        named = named_more marks labels whole c.loop-number.out.items w.write_label.new.out.items c.loop-number.is_first w.in_ok-is_first.is_first c.loop-number.number _ w.label.ensures w.if-is_cited.true w.in_ok-is_first.ensures.ok
            c.loop-number.invariant.named;
        front = front_kept _ _ _ _ _ (omega arith) (omega arith) c.loop-number.invariant.front w.in_ok-is_first.ensures.front;
      })
      | else-is_cited w ↦ rw (w.out-is, w.is_first-is) (record {
        named = named_not marks labels whole c.loop-number.out.items c.loop-number.is_first c.loop-number.number w.if-is_cited.false c.loop-number.invariant.named;
        front = c.loop-number.invariant.front;
      })
    ]

pub returns-clause-ok : goal.returns-clause-ok
returns-clause-ok c =
    let marks = c.args.cited.now in
    let labels = c.args.state.now.labels in
    let whole : List ℕ = c.args.out.now.items ++ core_line (cited_names (is_marked marks) 0 labels) in
    on_ok_weaker c.push_str-2.result
    (λ e. e ∙ ap (λ (t : List ℕ). c.loop-number.out.items ++ t) (sym (ends_line c.loop-number.is_first))
    ∙ named_all marks labels whole c.loop-number.out.items c.loop-number.is_first c.loop-number.number (omega arith) c.loop-number.invariant.named)
    c.push_str-2.ensures.ok
