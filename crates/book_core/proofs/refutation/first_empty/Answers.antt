use Rattle.std.specs.Arc.{arc_value}
use Rattle.refute_tree.specs.declared.lemma.Lemma.{Lemma as Stated}
use Rattle.book_core.proofs.Concluding.{ends_empty}
use Rattle.book_core.proofs.refutation.first_empty.Goals as goal

pub returns-then-is_empty : goal.returns-then-is_empty
returns-then-is_empty c = ends_empty (λ a. arc_value {X = Stated} a) c.args.lemmas.now c.loop-j.j c.index-lemmas-j.result c.deref.result.now c.as_slice.result.now _
    c.loop-j-test.true c.index-lemmas-j.is c.deref.ensures c.as_slice.ensures c.is_empty.ensures c.if-is_empty.true
