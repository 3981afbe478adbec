use Rattle.std.proofs.Common.{◌≡◌, [], drop}
use Rattle.carried_lemmas.specs.Shared.{lemmas_of}
use Rattle.carried_lemmas.specs.code.Carrying.{flags_from}
use Rattle.carried_lemmas.proofs.flags.kept_flags.Given as goal

abbrev pub invariant-loop-lemma : goal.invariant-loop-lemma
invariant-loop-lemma l = flags_from l.points l.numbers l.kept.items (lemmas_of (drop l.lemma-index l.lemmas)) ≡ flags_from l.points l.numbers [] (lemmas_of l.lemmas)
