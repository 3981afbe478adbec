use Rattle.std.proofs.Common.{◌≡◌, ◌++◌, take, drop, map}
use Rattle.reduced_problem.specs.code.Restating.{restated_lemma}
use Rattle.reduced_problem.proofs.restating.restate_each.Given as goal

abbrev pub invariant-loop-lemma : goal.invariant-loop-lemma
invariant-loop-lemma l = l.lemmas ≡ map (restated_lemma l.origins l.clauses l.base) (take l.lemma-index l.initial.lemmas) ++ drop l.lemma-index l.initial.lemmas
