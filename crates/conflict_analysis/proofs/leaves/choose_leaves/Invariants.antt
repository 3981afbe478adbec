use Rattle.std.proofs.Common.{◌≤◌, length}
use Rattle.conflict_analysis.specs.code.Leaves.{IsChosen}
use Rattle.conflict_analysis.proofs.leaves.choose_leaves.Given as goal

abbrev pub invariant-forth : goal.invariant-forth
invariant-forth g l = record {
  within : l.left ≤ length l.passed;
  chosen : IsChosen l.graph.inputs l.graph.lemmas l.graph.trail l.roles l.passed l.left l.leaves.items;
}

abbrev pub decreases-forth : goal.decreases-forth
decreases-forth g l = l.left
