use Rattle.std.proofs.Common.{◌≤◌, length}
use Rattle.conflict_analysis.specs.code.Trails.{IsMarked}
use Rattle.conflict_analysis.specs.code.Places.{AreWaiting, ArePassed}
use Rattle.conflict_analysis.proofs.marking.mark_back.Given as goal

abbrev pub invariant-back : goal.invariant-back
invariant-back g l = record {
  within : l.low ≤ length l.graph.trail;
  marked : IsMarked l.graph.inputs l.graph.lemmas l.graph.trail l.whole l.low l.fn.marks.roles.items l.marks.roles.items;
  waiting : AreWaiting l.low l.marks.roles.items l.marks.waiting;
  passed : ArePassed l.low (length l.graph.trail) l.marks.roles.items l.marks.passed.items;
}

abbrev pub decreases-back : goal.decreases-back
decreases-back g l = l.low
