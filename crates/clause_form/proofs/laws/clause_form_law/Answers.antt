use Rattle.std.proofs.Common.{arith, ◌+◌, length}
use Rattle.stn_core.specs.Literal.{IsOver}
use Rattle.idl_node.specs.Sorts.{IsAtomFor}
use Rattle.clause_form.proofs.Means.{schedule_of_values, values_of_schedule}
use Rattle.clause_form.proofs.Points.{points_few, points_some, clauses_over}
use Rattle.idl_node.proofs.Keeping.{table_of-better}
use Rattle.clause_form.proofs.laws.clause_form_law.Goals as goal

pub returns-clause-holds : goal.returns-clause-holds
returns-clause-holds c sorts nodes roots schedule table in_range of_sorts true_all = values_of_schedule sorts nodes table roots schedule of_sorts true_all

pub returns-clause-schedule : goal.returns-clause-schedule
returns-clause-schedule c sorts nodes roots values table in_range count holds = schedule_of_values sorts nodes table roots values in_range count holds

pub returns-clause-over : goal.returns-clause-over
returns-clause-over c sorts nodes roots table in_range =
    clauses_over (length sorts + 1) nodes roots (omega arith) (table_of-better (IsAtomFor sorts) (IsOver (length sorts + 1)) (λ l a. a.over) nodes table)

pub returns-clause-few : goal.returns-clause-few
returns-clause-few c points nodes roots = points_few points nodes roots

pub returns-clause-some : goal.returns-clause-some
returns-clause-some c points nodes roots = points_some points nodes roots
