use Rattle.std.proofs.Common.{◌≡◌, take}
use Rattle.learned_lemmas.proofs.choice.copies.Given as goal

abbrev pub invariant-loop-lemma : goal.invariant-loop-lemma
invariant-loop-lemma l = l.all.items ≡ take l.lemma-index l.lemmas
