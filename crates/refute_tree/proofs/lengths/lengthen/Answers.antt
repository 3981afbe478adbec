use Rattle.refute_tree.proofs.Lengthened.{lengthened_refuted}
use Rattle.refute_tree.proofs.lengths.lengthen.Goals as goal

pub returns-clause-refuted : goal.returns-clause-refuted
returns-clause-refuted c = lengthened_refuted c.args.problem.now.clauses c.args.lemma.now c.in_ok-clause.clause c.loop-step.steps c.loop-step.reader c.in_ok-clause.ensures c.in_default.ensures.none_before c.loop-step.invariant
