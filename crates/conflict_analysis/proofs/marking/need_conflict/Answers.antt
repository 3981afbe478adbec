use Rattle.conflict_analysis.proofs.Marks.{denied_by, used_by_clause, standing_cycle, used_by_cycle}
use Rattle.conflict_analysis.proofs.marking.need_conflict.Goals as goal

pub need_all-requires-clause-stand : goal.need_all-requires-clause-stand
need_all-requires-clause-stand g c = rw c.count-below.ensures (standing_cycle c.args.graph.now.inputs c.args.graph.now.lemmas c.args.graph.now.trail _ _ _ _ c.requires.conflict c.in-Cycle.is c.as_slice.ensures)

pub returns-in_ok-need_denials-in-Clause-clause-used : goal.returns-in_ok-need_denials-in-Clause-clause-used
returns-in_ok-need_denials-in-Clause-clause-used g c = used_by_clause c.args.graph.now.inputs c.args.graph.now.lemmas c.args.graph.now.trail _ _ _ _ _ c.requires.conflict c.in-Clause.is c.clause-clause.ensures (rw c.count-below.ensures at (c.in_ok-need_denials-in-Clause.ensures.used (c.in_ok-need_denials-in-Clause.ensures.stand (rw c.count-below.ensures (denied_by c.args.graph.now.inputs c.args.graph.now.lemmas c.args.graph.now.trail _ _ _ _ c.requires.conflict c.in-Clause.is c.clause-clause.ensures)))))

pub returns-in_ok-need_all-in-Cycle-clause-used : goal.returns-in_ok-need_all-in-Cycle-clause-used
returns-in_ok-need_all-in-Cycle-clause-used g c = used_by_cycle c.args.graph.now.inputs c.args.graph.now.lemmas c.args.graph.now.trail _ _ _ _ _ c.requires.conflict c.in-Cycle.is c.as_slice.ensures (rw c.count-below.ensures at c.in_ok-need_all-in-Cycle.ensures.used)
