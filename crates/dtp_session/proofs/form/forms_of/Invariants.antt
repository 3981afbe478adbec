use Rattle.std.proofs.Common.{◌≡◌, take, map}
use Rattle.dtp_session.specs.code.Forms.{formed}
use Rattle.dtp_session.proofs.form.forms_of.Given as goal

abbrev pub invariant-loop-lemma : goal.invariant-loop-lemma
invariant-loop-lemma l = l.shown.items ≡ map (formed l.version l.problem.clauses) (take l.lemma-index l.lemmas)
