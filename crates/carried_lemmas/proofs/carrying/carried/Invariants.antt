use Rattle.carried_lemmas.specs.Shared.{lemmas_of}
use Rattle.carried_lemmas.proofs.Placed.{AreMade}
use Rattle.carried_lemmas.proofs.carrying.carried.Given as goal

abbrev pub invariant-loop-k : goal.invariant-loop-k
invariant-loop-k l = AreMade l.numbers l.kept (lemmas_of l.lemmas) l.places.items l.all.items l.k
