use Rattle.unsat_cores.proofs.Swept.{AreSwept}
use Rattle.unsat_cores.proofs.citing.cited_marks.Given as goal

abbrev pub invariant-back : goal.invariant-back
invariant-back l = record { swept : AreSwept l.lemmas l.number l.needed.items l.cited.items }

abbrev pub decreases-back : goal.decreases-back
decreases-back l = l.number
