use Rattle.std.proofs.Common.{arith, ap, ◌∙◌, ◌≡◌, ◌+ℤ◌, ◌*ℤ◌, List, to_z, of_z}
use Rattle.std.proofs.lemmas.Int.{ints}
use Rattle.std.specs.Int.{w128}
use Rattle.stn_core.specs.Literal.{value_at}
use Rattle.stn_core.specs.declared.named.NamedValue.{NamedValue}
use Rattle.idl_node.specs.Truth.{point_values}
use Rattle.idl_value.proofs.Evaluating.{adding_starts, adding_turn, adding_low, adding_high}
use Rattle.idl_value.proofs.evaluation.eval_linear.Goals as goal

pub loop-summand-init : goal.loop-summand-init
loop-summand-init c =
    let number : to_z w128 (of_z w128 c.from-sum.result) ≡ c.args.linear.now.constant = omega (arith, ints) in
    adding_starts _ c.args.linear.now _ _ c.cursor-cursor.ensures.linear c.cursor-cursor.ensures.items number

pub loop-summand-preserved : goal.loop-summand-preserved
loop-summand-preserved c =
    let s = c.in-Some.summand in
    let p = c.product-sum.result in
    let sum = to_z w128 c.loop-summand.sum-bits in
    let values = point_values c.args.values.now in
    let is = c.product-sum.ensures.value ∙ ap (λ (vs : List NamedValue). s.coefficient *ℤ value_at (point_values vs) s.point) c.as_slice-values.ensures in
    let low = adding_low values c.loop-summand.cursor sum _ c.loop-summand.invariant s c.next.new.self c.in-Some.ensures.next p c.product-sum.ensures.low c.product-sum.ensures.high in
    let high = adding_high values c.loop-summand.cursor sum _ c.loop-summand.invariant s c.next.new.self c.in-Some.ensures.next p c.product-sum.ensures.low c.product-sum.ensures.high in
    let small = c.product-sum.ensures.low in
    let large = c.product-sum.ensures.high in
    let number : to_z w128 (of_z w128 (sum +ℤ to_z w128 (of_z w128 p))) ≡ sum +ℤ p = omega (arith, ints, low, high, small, large) in
    rw number (adding_turn values c.loop-summand.cursor sum _ c.loop-summand.invariant s c.next.new.self c.in-Some.ensures.next p c.product-sum.ensures.low c.product-sum.ensures.high is)
