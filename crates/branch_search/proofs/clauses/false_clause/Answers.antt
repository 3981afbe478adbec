use Rattle.branch_search.proofs.Holding.{all_hold_by, next_late, next_early}
use Rattle.branch_search.proofs.clauses.false_clause.Goals as goal

pub returns-in-None-clause-found : goal.returns-in-None-clause-found
returns-in-None-clause-found c = all_hold_by c.args.values.now c.args.clauses.now c.args.from c.false_between-in-None.result c.in-None.ensures.found c.false_between-in-None.ensures.found

pub returns-in-None-clause-next : goal.returns-in-None-clause-next
returns-in-None-clause-next c = next_early c.args.values.now c.args.clauses.now c.args.from c.false_between-in-None.result c.in-None.ensures.found c.false_between-in-None.ensures.first

pub returns-in-Some-clause-next : goal.returns-in-Some-clause-next
returns-in-Some-clause-next c = next_late c.args.values.now c.args.clauses.now c.args.from _ c.in-Some.ensures.first.0 c.in-Some.ensures.first.2
