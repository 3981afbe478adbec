use Rattle.kept_lemmas.proofs.Usable.{usable}
use Rattle.kept_lemmas.proofs.laws.usable_law.Goals as goal

pub returns : goal.returns
returns c = λ shelf points clauses items r. usable shelf points clauses items r
