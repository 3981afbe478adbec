use Rattle.stn_core.specs.Literal.{value_at}
use Rattle.inc_paths.proofs.Backs.{IsBack}
use Rattle.inc_paths.proofs.relax.way_back.Given as goal

abbrev pub invariant-back : goal.invariant-back
invariant-back l = IsBack l.arcs.literals l.labels l.fn.last.x (value_at l.labels.values l.fn.last.x) l.walk.items l.number

abbrev pub decreases-back : goal.decreases-back
decreases-back l = l.number
