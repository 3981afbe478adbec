use Rattle.std.proofs.Common.{◌≡◌, ◌++◌, take, drop, map}
use Rattle.trim_lemmas.specs.code.Marks.{lemma_by}
use Rattle.trim_lemmas.proofs.trimming.renumber.Given as goal

abbrev pub invariant-loop-lemma : goal.invariant-loop-lemma
invariant-loop-lemma l = l.lemmas ≡ map (lemma_by l.places) (take l.lemma-index l.initial.lemmas) ++ drop l.lemma-index l.initial.lemmas
