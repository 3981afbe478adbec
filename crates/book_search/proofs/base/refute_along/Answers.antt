use Rattle.book_search.proofs.Deciding.{units_over, units_refuted}
use Rattle.book_search.proofs.base.refute_along.Goals as goal

pub greatest-requires-clause-over : goal.greatest-requires-clause-over
greatest-requires-clause-over c = units_over c.args.problem.now c.as_slice.result.now c.in_ok-units.units c.as_slice-2.result.now c.as_slice.ensures c.in_ok-units.ensures.over c.as_slice-2.ensures

pub returns : goal.returns
returns c = units_refuted c.args.problem.now c.as_slice.result.now c.in_ok-units.units c.as_slice-2.result.now c.in-Negative.cycle c.as_slice-in-Negative.result.now c.in_ok-greatest.field-0 _
    c.as_slice.ensures c.in_ok-units.ensures.base c.as_slice-2.ensures c.in_ok-greatest.ensures c.in-Negative.is c.as_slice-in-Negative.ensures c.in_ok-refutation-in-Negative.ensures
