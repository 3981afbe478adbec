use Rattle.job_shop.proofs.Moving.{IsEarliestBelow}
use Rattle.job_shop.proofs.tight.Timely.earliest.Given as goal

abbrev pub invariant-loop-other : goal.invariant-loop-other
invariant-loop-other l = IsEarliestBelow l.self l.job l.place l.other l.time
