use Rattle.std.proofs.Common.{ap, ◌∙◌, slice_set, slice_index_or, arith}
use Rattle.std.proofs.lemmas.List.{get_or_default}
use Rattle.std.proofs.lemmas.List.Edits.{map_over_more}
use Rattle.refute_tree.specs.Batches.{moved_lemma}
use Rattle.refute_tree.proofs.batch.move_each.Goals as goal

pub loop-lemma-preserved : goal.loop-lemma-preserved
loop-lemma-preserved c =
    let now = slice_index_or c.loop-lemma.lemmas c.loop-lemma.lemma-index c.lemma-item.result in
    ap (slice_set c.loop-lemma.lemmas c.loop-lemma.lemma-index) c.move_lemma.ensures ∙ map_over_more (moved_lemma c.args.seen c.args.base) c.args.lemmas.now c.loop-lemma.lemmas c.loop-lemma.lemma-index now c.loop-lemma-test.true c.loop-lemma.invariant (get_or_default c.loop-lemma.lemmas c.loop-lemma.lemma-index _ _ (omega arith))
