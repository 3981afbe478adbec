use Rattle.std.proofs.Common.{◌≤◌, length, drop}
use Rattle.conflict_analysis.specs.code.Spines.{AreOpened}
use Rattle.conflict_analysis.proofs.Written.{AreWritten}
use Rattle.conflict_analysis.proofs.spine.steps_for.Given as goal

abbrev pub invariant-forth : goal.invariant-forth
invariant-forth g l = record {
  within : l.left ≤ length l.passed;
  opened : AreOpened l.graph.inputs l.graph.lemmas l.graph.trail l.outline.roles.now l.outline.leaves.now (drop l.left l.passed) l.steps;
}

abbrev pub decreases-forth : goal.decreases-forth
decreases-forth g l = l.left

abbrev pub invariant-back : goal.invariant-back
invariant-back g l = record {
  written : AreWritten l.graph.inputs l.graph.lemmas l.graph.trail l.outline.roles.now l.outline.leaves.now l.passed l.i l.steps;
}
