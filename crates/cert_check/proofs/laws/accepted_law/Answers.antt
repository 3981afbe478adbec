use Rattle.cert_check.proofs.Lemmas.{unflawed_refutation}
use Rattle.cert_check.proofs.laws.accepted_law.Goals as goal

pub returns : goal.returns
returns c = λ points clauses lemmas e values h. c.refutation_law.ensures points clauses lemmas (unflawed_refutation points clauses lemmas e) values h
