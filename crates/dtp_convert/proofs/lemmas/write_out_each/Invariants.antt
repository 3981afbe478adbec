use Rattle.std.proofs.Common.{◌≡◌, ◌++◌, take, drop, map}
use Rattle.refute_tree.specs.Lengths.{lengthened_lemma}
use Rattle.dtp_convert.proofs.lemmas.write_out_each.Given as goal

abbrev pub invariant-loop-lemma : goal.invariant-loop-lemma
invariant-loop-lemma l = l.lemmas ≡ map (lengthened_lemma l.problem.clauses) (take l.lemma-index l.initial.lemmas) ++ drop l.lemma-index l.initial.lemmas
