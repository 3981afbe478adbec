use Rattle.branch_search.proofs.Answered.{model_spent, excluded_spent, divided_spent}
use Rattle.branch_search.proofs.slicing.end.Goals as goal

pub returns-in_ok-slice-in-Model-clause-spent : goal.returns-in_ok-slice-in-Model-clause-spent
returns-in_ok-slice-in-Model-clause-spent g c = model_spent _ _ c.in-Model.schedule _ c.in_ok-slice-in-Model.ensures.kind

pub returns-in_ok-slice-in-Excluded-clause-spent : goal.returns-in_ok-slice-in-Excluded-clause-spent
returns-in_ok-slice-in-Excluded-clause-spent g c = excluded_spent _ _ c.in-Excluded.j _ c.in_ok-slice-in-Excluded.ensures.kind

pub returns-in_ok-slice-in-Spent-clause-spent : goal.returns-in_ok-slice-in-Spent-clause-spent
returns-in_ok-slice-in-Spent-clause-spent g c = divided_spent _ _ _ c.in_ok-slice-in-Spent.ensures.spent
