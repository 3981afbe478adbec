use Rattle.cert_check.proofs.Lemmas.{unflawed_refutation, refutation_unflawed}
use Rattle.cert_check.proofs.laws.flaw_law.Goals as goal

pub returns : goal.returns
returns c = λ points clauses lemmas. (unflawed_refutation points clauses lemmas, refutation_unflawed points clauses lemmas)
