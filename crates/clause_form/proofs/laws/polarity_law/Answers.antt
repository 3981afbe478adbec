use Rattle.clause_form.proofs.Least.{asserted_least, denied_least, inner_least}
use Rattle.clause_form.proofs.laws.polarity_law.Goals as goal

pub returns-clause-asserted : goal.returns-clause-asserted
returns-clause-asserted c sorts nodes roots k table in_range = asserted_least nodes roots _ table k

pub returns-clause-denied : goal.returns-clause-denied
returns-clause-denied c sorts nodes roots k table in_range = denied_least nodes roots _ table k

pub returns-clause-inner : goal.returns-clause-inner
returns-clause-inner c sorts nodes roots k table in_range = inner_least nodes roots _ table k
