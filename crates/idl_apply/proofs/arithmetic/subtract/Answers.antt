use Rattle.std.proofs.Common.{arith, ◌≡◌, ◌++◌, map}
use Rattle.std.proofs.lemmas.Result.{err_from_is_err_and}
use Rattle.idl_linear.specs.Linear.{sum_of, negative_of, less_others}
use Rattle.idl_apply.proofs.Arguments.{seen}
use Rattle.idl_apply.proofs.SumsOfTerms.{less_first, less_all, sums_refused, sums_ok}
use Rattle.idl_apply.proofs.arithmetic.subtract.Goals as goal
use Rattle.idl_apply.proofs.arithmetic.subtract.Goals.{then-terms-gt1, else-terms-gt1}

pub returns-in_err-total : goal.returns-in_err-total
returns-in_err-total c =
    let terms = c.args.terms.now in
    let front = c.split_at.result.0.now in
    let back = c.split_at.result.1.now in
    let same : sum_of (seen front ++ map negative_of (seen back)) ≡ less_others (seen terms) = elim c.if-terms-gt1.branch [
      | then-terms-gt1 w ↦ less_first terms front back _ w.count-is (omega (arith, w.if-terms-gt1.true)) c.split_at.ensures.front c.split_at.ensures.back
      | else-terms-gt1 w ↦ less_all terms front back _ w.count-is (omega (arith, w.if-terms-gt1.false)) c.split_at.ensures.front c.split_at.ensures.back
    ] in
    let p = err_from_is_err_and c.from_residual.result c.from_residual.ensures.1 in
    sums_refused _ _ c.from_residual.result p.0 c.in_err-total.field-0.0 p.1 p.2 c.in_err-total.ensures.refused same

pub returns : goal.returns
returns c =
    let terms = c.args.terms.now in
    let front = c.split_at.result.0.now in
    let back = c.split_at.result.1.now in
    let same : sum_of (seen front ++ map negative_of (seen back)) ≡ less_others (seen terms) = elim c.if-terms-gt1.branch [
      | then-terms-gt1 w ↦ less_first terms front back _ w.count-is (omega (arith, w.if-terms-gt1.true)) c.split_at.ensures.front c.split_at.ensures.back
      | else-terms-gt1 w ↦ less_all terms front back _ w.count-is (omega (arith, w.if-terms-gt1.false)) c.split_at.ensures.front c.split_at.ensures.back
    ] in
    sums_ok _ _ c.in_ok-total.total c.in_ok-total.ensures.ok c.in_ok-total.ensures.limited same
