use Rattle.std.proofs.lemmas.Result.{err_from_is_err_and}
use Rattle.idl_apply.proofs.SumsOfTerms.{sum_of_all, sums_refused, sums_ok}
use Rattle.idl_apply.proofs.arithmetic.add.Goals as goal

pub returns-in_err-total : goal.returns-in_err-total
returns-in_err-total c =
    let p = err_from_is_err_and c.from_residual.result c.from_residual.ensures.1 in
    sums_refused _ _ c.from_residual.result p.0 c.in_err-total.field-0.0 p.1 p.2 c.in_err-total.ensures.refused (sum_of_all _)

pub returns : goal.returns
returns c = sums_ok _ _ c.in_ok-total.total c.in_ok-total.ensures.ok c.in_ok-total.ensures.limited (sum_of_all _)
