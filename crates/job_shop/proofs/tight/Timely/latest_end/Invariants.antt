use Rattle.job_shop.proofs.Moving.{IsLatestBelow}
use Rattle.job_shop.proofs.tight.Timely.latest_end.Given as goal

abbrev pub invariant-loop-i : goal.invariant-loop-i
invariant-loop-i l = IsLatestBelow l.self l.job l.place l.other l.i l.time l.latest
