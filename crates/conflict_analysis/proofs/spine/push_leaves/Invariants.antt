use Rattle.std.proofs.Common.{◌≤◌}
use Rattle.conflict_analysis.specs.code.Spines.{Grows, Assumes, AreShut}
use Rattle.conflict_analysis.proofs.spine.push_leaves.Given as goal

abbrev pub invariant-loop-q : goal.invariant-loop-q
invariant-loop-q g l = record {
  high : l.q ≤ l.high;
  low : l.low ≤ l.q;
  grows : Grows l.fn.steps l.steps (AreShut l.graph.inputs l.graph.lemmas (Assumes l.graph.trail l.outline.roles.now l.outline.leaves.now l.below) l.clause l.low l.q);
}
