use Rattle.std.proofs.Common.{◌≡◌, ◌++◌, take, drop, map}
use Rattle.dtp_session.specs.code.Forms.{formed}
use Rattle.dtp_session.proofs.form.form_each.Given as goal

abbrev pub invariant-loop-lemma : goal.invariant-loop-lemma
invariant-loop-lemma l = l.lemmas ≡ map (formed l.version l.problem.clauses) (take l.lemma-index l.initial.lemmas) ++ drop l.lemma-index l.initial.lemmas
