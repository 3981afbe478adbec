use Rattle.book_search.proofs.Deciding.{units_over, unit_solution, units_refuted}
use Rattle.book_search.proofs.base.decide_units.Goals as goal

pub greatest-requires-clause-over : goal.greatest-requires-clause-over
greatest-requires-clause-over c = units_over c.args.problem.now c.as_slice.result.now c.in_ok-units.units c.as_slice-2.result.now c.as_slice.ensures c.in_ok-units.ensures.over c.as_slice-2.ensures

pub returns-then-all_hold : goal.returns-then-all_hold
returns-then-all_hold c = unit_solution c.args.problem.now c.as_slice-2.result.now c.in-Greatest.schedule c.as_slice-in-Greatest-2.result.now c.as_slice-in-Greatest.result.now c.in_ok-schedule.field-0 _
    c.in_ok-schedule.ensures c.in-Greatest.is c.as_slice-in-Greatest-2.ensures c.as_slice-in-Greatest.ensures c.all_hold.ensures c.if-all_hold.true

pub returns : goal.returns
returns c = units_refuted c.args.problem.now c.as_slice.result.now c.in_ok-units.units c.as_slice-2.result.now c.in-Negative.cycle c.as_slice-in-Negative.result.now c.in_ok-schedule.field-0 _
    c.as_slice.ensures c.in_ok-units.ensures.base c.as_slice-2.ensures c.in_ok-schedule.ensures c.in-Negative.is c.as_slice-in-Negative.ensures c.in_ok-refutation-in-Negative.ensures
