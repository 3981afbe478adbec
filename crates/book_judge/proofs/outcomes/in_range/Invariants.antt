use Rattle.std.proofs.Common.{All, take}
use Rattle.stn_core.specs.Schedule.{IsInRange}
use Rattle.book_judge.proofs.outcomes.in_range.Given as goal

abbrev pub invariant-loop-value : goal.invariant-loop-value
invariant-loop-value l = All IsInRange (take l.value-index l.values)
