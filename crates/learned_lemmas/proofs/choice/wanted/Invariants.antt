use Rattle.std.proofs.Common.{◌≡◌, ◌≤◌, length}
use Rattle.learned_lemmas.proofs.choice.wanted.Given as goal

abbrev pub invariant-back : goal.invariant-back
invariant-back l = record {
  each : length l.wanted.items ≡ length l.lemmas;
  within : l.number ≤ length l.lemmas;
}

abbrev pub decreases-back : goal.decreases-back
decreases-back l = l.number
