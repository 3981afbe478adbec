use Rattle.std.proofs.Common.{All}
use Rattle.conflict_analysis.specs.code.Trails.{DeniesKept}
use Rattle.conflict_analysis.proofs.Marks.{KeepsPassed}
use Rattle.conflict_analysis.proofs.analysis.kept_clause.Given as goal

abbrev pub invariant-loop-i : goal.invariant-loop-i
invariant-loop-i g l = record {
  kept : KeepsPassed l.graph.trail l.roles l.passed l.i l.clause.items;
  denied : All (DeniesKept l.graph.trail l.roles) l.clause.items;
}
