use Rattle.std.proofs.Common.{◌≤◌, length}
use Rattle.relaxed_lemmas.proofs.run.run_start.Given as goal

abbrev pub invariant-back : goal.invariant-back
invariant-back l = l.start ≤ length l.clauses

abbrev pub decreases-back : goal.decreases-back
decreases-back l = l.start
