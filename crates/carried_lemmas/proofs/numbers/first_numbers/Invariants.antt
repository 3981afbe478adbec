use Rattle.std.proofs.Common.{◌≤◌, length}
use Rattle.carried_lemmas.proofs.Firsts.{HasFirstsFrom}
use Rattle.carried_lemmas.proofs.numbers.first_numbers.Given as goal

abbrev pub invariant-back : goal.invariant-back
invariant-back l = record {
  within : l.number ≤ length l.clauses;
  firsts : HasFirstsFrom l.number l.clauses l.firsts;
}

abbrev pub decreases-back : goal.decreases-back
decreases-back l = l.number
