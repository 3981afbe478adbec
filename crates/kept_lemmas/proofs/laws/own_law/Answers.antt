use Rattle.kept_lemmas.proofs.Owned.{owned}
use Rattle.kept_lemmas.proofs.laws.own_law.Goals as goal

pub returns : goal.returns
returns c = λ shelf points clauses lemmas. owned shelf clauses points lemmas
