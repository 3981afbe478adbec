use Rattle.cert_check.proofs.Reading.{unflawed_lemma, refuted_lemma}
use Rattle.cert_check.proofs.laws.lemma_law.Goals as goal

pub returns : goal.returns
returns c = λ points clauses earlier lemma. (unflawed_lemma points clauses earlier lemma, refuted_lemma points clauses earlier lemma)
