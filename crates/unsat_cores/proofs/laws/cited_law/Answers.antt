use Rattle.unsat_cores.proofs.CitedSound.{cited_sound}
use Rattle.unsat_cores.proofs.laws.cited_law.Goals as goal

pub returns : goal.returns
returns c points clauses lemmas refutes values holds =
    cited_sound values (λ cycle. c.cycle_law.ensures cycle values) (c.negation_law.ensures.either values) (λ l h n. (c.negation_law.ensures.exact values l).0 n h) points clauses lemmas refutes holds
