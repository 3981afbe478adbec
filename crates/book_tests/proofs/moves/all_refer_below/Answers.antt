use Rattle.std.proofs.Common.{subst, refl}
use Rattle.refute_tree.specs.Batches.{LemmaRefersBelow}
use Rattle.book_judge.proofs.Judged.{all_more, all_end}
use Rattle.book_tests.proofs.moves.all_refer_below.Goals as goal

pub loop-lemma-preserved : goal.loop-lemma-preserved
loop-lemma-preserved c = all_more (LemmaRefersBelow c.args.limit) c.args.lemmas.now c.loop-lemma.lemma-index c.lemma-item.result c.loop-lemma-test.true c.loop-lemma.invariant (subst (LemmaRefersBelow c.args.limit) c.lemma-item.is (c.if-not-refers_below.ensures refl))

pub returns : goal.returns
returns c t = all_end (LemmaRefersBelow c.args.limit) c.args.lemmas.now c.loop-lemma.lemma-index c.loop-lemma-test.false c.loop-lemma.invariant
