use Rattle.std.proofs.Common.{◌≡◌, take}
use Rattle.refute_tree.proofs.batch.Batch.copy.Given as goal

abbrev pub invariant-loop-lemma : goal.invariant-loop-lemma
invariant-loop-lemma l = l.lemmas.items ≡ take l.lemma-index l.self-inside.lemmas.items
