use Rattle.std.proofs.Common.{ap, sym, subst, ◌∙◌, arith, ◌≡◌, ℤ, to_z, of_z, w64}
use Rattle.std.proofs.lemmas.Int.{ints}
use Rattle.idl_linear.specs.Limits.{constant_limit}
use Rattle.idl_linear.specs.Linear.{LinearValue}
use Rattle.idl_linear.specs.Forms.{IsLinear}
use Rattle.idl_linear.specs.code.Held.{held_summands}
use Rattle.idl_linear.proofs.FewSummands.{few_linear, few_sum}
use Rattle.idl_linear.proofs.Merging.{within_low, within_high}
use Rattle.idl_linear.proofs.few.sum_of_two.Goals as goal

pub from_parts-requires : goal.from_parts-requires
from_parts-requires c =
    let both = held_summands c.in_ok-summands.summands in
    let n = c.in_ok-constant.constant in
    let low = within_low constant_limit n c.in_ok-constant.ensures.within in
    let high = within_high constant_limit n c.in_ok-constant.ensures.within in
    let stored : to_z w64 (of_z w64 c.in_ok-constant.constant) ≡ c.in_ok-constant.constant = omega (arith, ints, low, high) in
    subst (λ (k : ℤ). IsLinear (record { summands = both; constant = k })) (sym stored) (few_linear both n c.in_ok-summands.ensures.rest c.in_ok-constant.ensures.within)

pub returns-clause-sum : goal.returns-clause-sum
returns-clause-sum c =
    let both = held_summands c.in_ok-summands.summands in
    let n = c.in_ok-constant.constant in
    let low = within_low constant_limit n c.in_ok-constant.ensures.within in
    let high = within_high constant_limit n c.in_ok-constant.ensures.within in
    let stored : to_z w64 (of_z w64 c.in_ok-constant.constant) ≡ c.in_ok-constant.constant = omega (arith, ints, low, high) in
    let of_number : ℤ → LinearValue = λ k. record { summands = both; constant = k } in
    c.from_parts.ensures ∙ ap of_number stored ∙ few_sum c.args.is_negated c.args.first.now c.args.second.now both n c.in_ok-summands.ensures c.in_ok-constant.ensures.sum
