use Rattle.std.proofs.Common.{arith, slice_index_or, slice_set, ap, ◌∙◌}
use Rattle.std.proofs.lemmas.List.{get_or_default}
use Rattle.std.proofs.lemmas.List.Edits.{map_over_more}
use Rattle.refute_tree.specs.Lengths.{lengthened_lemma}
use Rattle.dtp_convert.proofs.lemmas.write_out_each.Goals as goal

pub loop-lemma-preserved : goal.loop-lemma-preserved
loop-lemma-preserved c =
    let at = c.loop-lemma in
    let now = slice_index_or at.lemmas at.lemma-index c.lemma-item.result in
    ap (slice_set at.lemmas at.lemma-index) c.in_ok-lemma.ensures.lemma
    ∙ map_over_more (lengthened_lemma c.args.problem.now.clauses) c.args.lemmas.now at.lemmas at.lemma-index now c.loop-lemma-test.true at.invariant (get_or_default at.lemmas at.lemma-index _ _ (omega arith))
