use Rattle.std.proofs.Common.{◌≤◌, length}
use Rattle.clause_form.proofs.Passes.{IsMarked}
use Rattle.clause_form.proofs.marks.mark_nodes.Given as goal

abbrev pub invariant-loop-left : goal.invariant-loop-left
invariant-loop-left l = record {
  within : l.left ≤ length l.nodes;
  so_far : IsMarked l.nodes l.roots l.left l.asserted l.denied l.inner;
}

abbrev pub decreases-loop-left : goal.decreases-loop-left
decreases-loop-left l = l.left
