use Rattle.std.proofs.Common.{◌≡◌, take}
use Rattle.book_core.specs.Shared.{lemmas_of}
use Rattle.book_judge.proofs.judging.first_lemmas.Given as goal

abbrev pub invariant-loop-lemma : goal.invariant-loop-lemma
invariant-loop-lemma l = lemmas_of l.known.items ≡ lemmas_of (take l.lemma-index (take l.count l.lemmas))
