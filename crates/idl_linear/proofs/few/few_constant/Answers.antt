use Rattle.std.proofs.Common.{ap, ◌∙◌, arith, ◌≡◌, cond, ℤ, neg_ℤ, ◌+ℤ◌, to_z, of_z, w64}
use Rattle.std.specs.Int.{w128}
use Rattle.std.proofs.lemmas.Int.{ints}
use Rattle.idl_linear.specs.Limits.{constant_limit}
use Rattle.idl_linear.proofs.FewSummands.{few_constant, few_found, few_within}
use Rattle.idl_linear.proofs.Finishing.{constant_low, constant_high}
use Rattle.idl_linear.proofs.few.few_constant.Goals as goal

pub returns-clause-sum : goal.returns-clause-sum
returns-clause-sum c =
    let negated = c.args.is_negated in
    let a = c.args.first.now in
    let b = c.args.second.now in
    let m = c.signed_constant-more.result in
    let stored : to_z w64 (of_z w64 c.constant.result) ≡ c.constant.result = omega (arith, ints) in
    let more : c.signed_constant-more.result ≡ cond c.args.is_negated (neg_ℤ c.constant.result) c.constant.result = c.signed_constant-more.ensures ∙ ap (λ (z : ℤ). cond c.args.is_negated (neg_ℤ z) z) stored in
    let low = constant_low negated b c.constant.result m c.constant.ensures.linear c.constant.ensures.number more in
    let high = constant_high negated b c.constant.result m c.constant.ensures.linear c.constant.ensures.number more in
    let number : to_z w128 (of_z w128 (to_z w128 (of_z w128 c.from.result) +ℤ to_z w128 (of_z w128 c.signed_constant-more.result))) ≡ c.args.first.now.constant +ℤ c.signed_constant-more.result = omega (arith, ints, low, high) in
    few_found constant_limit _ _ c.within.result c.within.ensures (few_constant negated a b m _ (more ∙ ap (λ (z : ℤ). cond c.args.is_negated (neg_ℤ z) z) c.constant.ensures.number) number)

pub returns-clause-within : goal.returns-clause-within
returns-clause-within c = few_within constant_limit (to_z w128 (of_z w128 (to_z w128 (of_z w128 c.from.result) +ℤ to_z w128 (of_z w128 c.signed_constant-more.result)))) c.within.result c.within.ensures
