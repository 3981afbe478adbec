use Rattle.std.specs.Arc.{arc_value}
use Rattle.refute_tree.specs.declared.lemma.Lemma.{Lemma as Stated}
use Rattle.carried_lemmas.proofs.Flagged.{flags_next}
use Rattle.carried_lemmas.proofs.flags.kept_flags.Goals as goal

pub loop-lemma-preserved : goal.loop-lemma-preserved
loop-lemma-preserved c = flags_next (λ a. arc_value {X = Stated} a) c.args.points c.args.numbers.now c.args.lemmas.now c.loop-lemma.lemma-index c.lemma-item.result c.loop-lemma.kept.items c.as_slice.result.now c.push.new.self.items _
    c.deref.result.now c.lemma_stays-stays.result c.loop-lemma-test.true c.lemma-item.is c.as_slice.ensures.value c.deref.ensures c.lemma_stays-stays.ensures c.in_ok-push.ensures.items c.loop-lemma.invariant
