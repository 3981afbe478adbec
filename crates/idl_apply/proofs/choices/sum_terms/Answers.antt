use Rattle.std.proofs.Common.{sym, ap, ◌∙◌, ◌≡◌, true}
use Rattle.std.proofs.lemmas.Result.{err_from_is_err_and}
use Rattle.idl_cases.specs.code.CaseSums.{summed_cases}
use Rattle.idl_apply.specs.Choices.{are_few, count_from}
use Rattle.idl_apply.proofs.Arguments.{seen}
use Rattle.idl_apply.proofs.ChoiceSums.{added_total, sums_made, sums_refused, total_few}
use Rattle.idl_apply.proofs.choices.sum_terms.Goals as goal

pub finish-requires : goal.finish-requires
finish-requires c =
    let bs = c.args.terms.now in
    let few : are_few (count_from 1 (seen bs)) ≡ true = sym c.are_few.ensures ∙ c.if-not-are_few.false in
    let last = summed_cases c.add_all-2.new.sum in
    let is = added_total c.args.sign bs c.split_at.result.0.now c.split_at.result.1.now c.taken_from.result (summed_cases c.new-sum.result) (summed_cases c.add_all.new.sum) last c.taken_from.ensures.is c.split_at.ensures.front c.split_at.ensures.back (ap summed_cases c.new-sum.ensures) c.in_ok-add_all.ensures c.in_ok-add_all-2.ensures in
    total_few c.args.sign (seen bs) few last is

pub returns-in_err-total : goal.returns-in_err-total
returns-in_err-total c =
    let bs = c.args.terms.now in
    let few : are_few (count_from 1 (seen bs)) ≡ true = sym c.are_few.ensures ∙ c.if-not-are_few.false in
    let last = summed_cases c.add_all-2.new.sum in
    let is = added_total c.args.sign bs c.split_at.result.0.now c.split_at.result.1.now c.taken_from.result (summed_cases c.new-sum.result) (summed_cases c.add_all.new.sum) last c.taken_from.ensures.is c.split_at.ensures.front c.split_at.ensures.back (ap summed_cases c.new-sum.ensures) c.in_ok-add_all.ensures c.in_ok-add_all-2.ensures in
    let q = err_from_is_err_and c.from_residual-in_err-total.result c.from_residual-in_err-total.ensures.1 in
    rw (q.1, q.2) (sums_refused c.args.sign (seen bs) few last is c.in_err-total.field-0.0 c.in_err-total.ensures.refused)

pub returns : goal.returns
returns c =
    let bs = c.args.terms.now in
    let few : are_few (count_from 1 (seen bs)) ≡ true = sym c.are_few.ensures ∙ c.if-not-are_few.false in
    let last = summed_cases c.add_all-2.new.sum in
    let is = added_total c.args.sign bs c.split_at.result.0.now c.split_at.result.1.now c.taken_from.result (summed_cases c.new-sum.result) (summed_cases c.add_all.new.sum) last c.taken_from.ensures.is c.split_at.ensures.front c.split_at.ensures.back (ap summed_cases c.new-sum.ensures) c.in_ok-add_all.ensures c.in_ok-add_all-2.ensures in
    sums_made c.args.sign (seen bs) few last is c.in_ok-total.total c.in_ok-total.ensures.ok c.in_ok-total.ensures.limited
