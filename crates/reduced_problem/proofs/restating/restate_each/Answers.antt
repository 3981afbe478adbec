use Rattle.std.proofs.Common.{ap, ◌∙◌, slice_set, slice_index_or, arith}
use Rattle.std.proofs.lemmas.List.{get_or_default}
use Rattle.std.proofs.lemmas.List.Edits.{map_over_more}
use Rattle.reduced_problem.specs.code.Restating.{restated_lemma}
use Rattle.reduced_problem.proofs.restating.restate_each.Goals as goal

pub loop-lemma-preserved : goal.loop-lemma-preserved
loop-lemma-preserved c =
    let now = slice_index_or c.loop-lemma.lemmas c.loop-lemma.lemma-index c.lemma-item.result in
    ap (slice_set c.loop-lemma.lemmas c.loop-lemma.lemma-index) c.in_ok-restate.ensures
    ∙ map_over_more (restated_lemma c.args.origins.now c.args.clauses.now c.args.base) c.args.lemmas.now c.loop-lemma.lemmas c.loop-lemma.lemma-index now c.loop-lemma-test.true c.loop-lemma.invariant
    (get_or_default c.loop-lemma.lemmas c.loop-lemma.lemma-index _ _ (omega arith))
