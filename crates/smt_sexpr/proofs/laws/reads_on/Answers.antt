use Rattle.smt_sexpr.proofs.ListsReadOn.{list_within, list_on}
use Rattle.smt_sexpr.proofs.laws.reads_on.Goals as goal

pub returns-clause-list : goal.returns-clause-list
returns-clause-list c = list_on c.reads_on.ensures.before c.reads_on.ensures.closing

pub returns-clause-within : goal.returns-clause-within
returns-clause-within c = list_within
