use Rattle.refute_tree.proofs.Shortened.{shortened_refuted}
use Rattle.refute_tree.proofs.lengths.shorten.Goals as goal

pub returns-clause-refuted : goal.returns-clause-refuted
returns-clause-refuted c = shortened_refuted c.args.problem.now.clauses c.args.lemma.now c.in_ok-clause.clause c.loop-step.skip c.loop-step.steps c.loop-step.reader c.in_ok-clause.ensures c.in_default.ensures.none_before c.loop-step.invariant
