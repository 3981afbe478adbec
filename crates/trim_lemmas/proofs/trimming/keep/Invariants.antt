use Rattle.trim_lemmas.proofs.Picked.{KeepsInPlace}
use Rattle.trim_lemmas.proofs.trimming.keep.Given as goal

abbrev pub invariant-loop-j : goal.invariant-loop-j
invariant-loop-j l = KeepsInPlace l.needed l.fn.lemmas.items l.lemmas.items l.kept l.j
