use Rattle.std.proofs.Common.{◌≡◌, ◌≤◌, length}
use Rattle.trim_lemmas.specs.code.Marks.{marked}
use Rattle.trim_lemmas.proofs.marking.mark_cited.Given as goal

abbrev pub invariant-loop-step : goal.invariant-loop-step
invariant-loop-step l = record {
  same : marked l.seen l.number l.reader l.needed ≡ marked l.seen l.number l.fn.reader l.fn.needed;
  room : l.number ≤ length l.needed;
}

abbrev pub decreases-loop-step : goal.decreases-loop-step
decreases-loop-step l = length l.reader
