use Rattle.std.proofs.Common.{◌∙◌}
use Rattle.std.proofs.lemmas.List.{with_items_is}
use Rattle.unsat_cores.proofs.Swept.{turn_needed, turn_other}
use Rattle.unsat_cores.proofs.citing.cited_marks.Goals as goal

pub back-preserved-in-Continue-branch-2 : goal.back-preserved-in-Continue-branch-2
back-preserved-in-Continue-branch-2 c =
    let lent = c.as_mut_slice-then-index.ensures in
    let marked = c.in_ok-mark_lemma.ensures.needed in
    record {
      swept = turn_needed c.args.lemmas.now c.back.number c.back-test.true c.back.needed.items c.back.cited.items c.back.invariant.swept c.index.result.now c.index.ensures
          c.index-lemmas-number.result c.index-lemmas-number.is c.as_mut_slice-then-index.result.now c.mark_lemma.new.needed _ c.mark_lemma.new.cited.items c.reader.result c.if-index.true
          lent.value (with_items_is c.back.needed c.mark_lemma.new.needed (marked.0 ∙ lent.len)) c.reader.ensures marked c.in_ok-mark_lemma.ensures.cited;
    }

pub back-preserved : goal.back-preserved
back-preserved c = record { swept = turn_other c.args.lemmas.now c.back.number c.back-test.true c.back.needed.items c.back.cited.items c.back.invariant.swept c.index.result.now c.index.ensures c.if-index.false }
