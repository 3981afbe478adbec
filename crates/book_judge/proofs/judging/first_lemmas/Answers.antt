use Rattle.std.proofs.Common.{◌∙◌}
use Rattle.std.specs.Arc.{arc_value}
use Rattle.refute_tree.specs.declared.lemma.Lemma.{Lemma as Stated}
use Rattle.book_core.proofs.Concluding.{copied}
use Rattle.book_judge.proofs.judging.first_lemmas.Goals as goal

pub returns : goal.returns
returns c = c.loop-lemma.invariant ∙ copied (λ a. arc_value {X = Stated} a) c.args.lemmas.now c.args.count c.loop-lemma.lemma-index c.loop-lemma-test.false
