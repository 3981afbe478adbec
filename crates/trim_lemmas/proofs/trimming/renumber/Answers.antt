use Rattle.std.proofs.Common.{arith, List, slice_index_or, slice_set, ap, ◌∙◌}
use Rattle.std.proofs.lemmas.List.{get_or_default}
use Rattle.std.proofs.lemmas.List.Edits.{map_over_more}
use Rattle.refute_tree.specs.declared.step.Step.{Step}
use Rattle.refute_tree.specs.declared.lemma.Lemma.{Lemma}
use Rattle.trim_lemmas.specs.code.Marks.{lemma_by}
use Rattle.trim_lemmas.proofs.trimming.renumber.Goals as goal

pub loop-lemma-preserved : goal.loop-lemma-preserved
loop-lemma-preserved c =
    let places = c.args.places.now in
    let at = c.loop-lemma in
    let now = slice_index_or at.lemmas at.lemma-index c.lemma-item.result in
    let set_steps : List Step → List Lemma = λ (steps : List Step). slice_set at.lemmas at.lemma-index (record { clause = now.clause; steps = steps }) in
    ap set_steps c.renumber.ensures
    ∙ map_over_more (lemma_by places) c.args.lemmas.now at.lemmas at.lemma-index now c.loop-lemma-test.true at.invariant (get_or_default at.lemmas at.lemma-index _ _ (omega arith))
