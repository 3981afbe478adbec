use Rattle.conflict_analysis.proofs.Denied.{unit_follows}
use Rattle.conflict_analysis.proofs.denial.unit_of.Goals as goal

pub returns-then-are_denied-clause-follows : goal.returns-then-are_denied-clause-follows
returns-then-are_denied-clause-follows g c =
    unit_follows c.args.problem.now.clauses (g.E.Earlier.clauses c.args.earlier.now) c.args.entries.now c.args.source
    c.args.place c.clause_of-clause.result.now (c.is_known.ensures.0 c.if-not-is_known.false) c.clause_of-clause.ensures
    c.if-place-clause.true (c.are_denied.ensures c.if-are_denied.true)
