use Rattle.std.proofs.Common.{arith}
use Rattle.dtp_check.proofs.Founds.{x_point, y_point}
use Rattle.dtp_check.proofs.best_entry.least_items_flaw.Goals as goal

pub with_question-requires-clause-x_in : goal.with_question-requires-clause-x_in
with_question-requires-clause-x_in c =
    let q = c.requires.asked in
    let low = x_point c.objective_law.ensures c.args.state.now q.1 c.args.objective q.0 q.2 c.clause_form_law.ensures.some in
    let points = (c.in_ok-problem.ensures.problem q.0 q.2.stands).0 in
    omega (arith, low, points)

pub with_question-requires-clause-y_in : goal.with_question-requires-clause-y_in
with_question-requires-clause-y_in c =
    let q = c.requires.asked in
    let low = y_point c.objective_law.ensures c.args.state.now q.1 c.args.objective q.0 q.2 c.clause_form_law.ensures.some in
    let points = (c.in_ok-problem.ensures.problem q.0 q.2.stands).0 in
    omega (arith, low, points)
