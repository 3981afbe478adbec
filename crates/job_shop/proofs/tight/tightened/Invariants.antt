use Rattle.job_shop.specs.code.Moving.{IsMoved, total}
use Rattle.job_shop.proofs.tight.tightened.Given as goal

abbrev pub invariant-loop : goal.invariant-loop
invariant-loop l = record { moved : IsMoved (record { shop = l.jobs; starts = l.starts; latest = l.makespan }) l.plan }

abbrev pub decreases-loop : goal.decreases-loop
decreases-loop l = total l.plan.starts
