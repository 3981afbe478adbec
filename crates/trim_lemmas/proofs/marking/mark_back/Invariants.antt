use Rattle.std.proofs.Common.{◌≡◌, ◌≤◌, length}
use Rattle.trim_lemmas.specs.code.Marks.{swept}
use Rattle.trim_lemmas.proofs.marking.mark_back.Given as goal

abbrev pub invariant-back : goal.invariant-back
invariant-back l = record {
  same : swept l.seen l.number l.lemmas l.needed ≡ swept l.seen (length l.lemmas) l.lemmas l.fn.needed;
  room : length l.needed ≡ length l.lemmas;
  within : l.number ≤ length l.lemmas;
}

abbrev pub decreases-back : goal.decreases-back
decreases-back l = l.number
