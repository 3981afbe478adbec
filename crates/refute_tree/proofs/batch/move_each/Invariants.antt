use Rattle.std.proofs.Common.{◌≡◌, ◌++◌, take, drop, map}
use Rattle.refute_tree.specs.Batches.{moved_lemma}
use Rattle.refute_tree.proofs.batch.move_each.Given as goal

abbrev pub invariant-loop-lemma : goal.invariant-loop-lemma
invariant-loop-lemma l = l.lemmas ≡ map (moved_lemma l.fn.seen l.fn.base) (take l.lemma-index l.initial.lemmas) ++ drop l.lemma-index l.initial.lemmas
