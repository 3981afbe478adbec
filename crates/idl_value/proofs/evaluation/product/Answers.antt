use Rattle.std.proofs.Common.{ap, ◌≡◌, ◌*ℤ◌, to_z, of_z}
use Rattle.std.proofs.lemmas.Int.{to_z-of_z}
use Rattle.std.specs.Int.{w128}
use Rattle.idl_value.proofs.Evaluating.{IsSmall, small_point, product_fits, product_low, product_high, product_is}
use Rattle.idl_value.proofs.evaluation.product.Goals as goal
use Rattle.idl_value.proofs.evaluation.product.Goals.{After-point_value}

small : (c : After-point_value) → IsSmall c.point_value.result
small c = rw c.point_value.ensures (small_point c.args.values.now c.args.summand.point c.requires.within)

same : (c : After-point_value) → to_z w128 (of_z w128 c.from.result) *ℤ to_z w128 (of_z w128 c.point_value.result) ≡ c.args.summand.coefficient *ℤ c.point_value.result
same c =
    product_is c.args.summand.coefficient c.point_value.result c.requires.limited (small c) c.from.result c.from.ensures

pub overflow_mul-result : goal.overflow_mul-result
overflow_mul-result c =
    rw (same c) (product_fits c.args.summand.coefficient c.point_value.result c.requires.limited (small c))

pub returns-clause-value : goal.returns-clause-value
returns-clause-value c =
    rw (same c, to_z-of_z w128 _ (product_fits c.args.summand.coefficient c.point_value.result c.requires.limited (small c)))
    (ap (λ z. c.args.summand.coefficient *ℤ z) c.point_value.ensures)

pub returns-clause-low : goal.returns-clause-low
returns-clause-low c =
    rw (same c, to_z-of_z w128 _ (product_fits c.args.summand.coefficient c.point_value.result c.requires.limited (small c)))
    (product_low c.args.summand.coefficient c.point_value.result c.requires.limited (small c))

pub returns-clause-high : goal.returns-clause-high
returns-clause-high c =
    rw (same c, to_z-of_z w128 _ (product_fits c.args.summand.coefficient c.point_value.result c.requires.limited (small c)))
    (product_high c.args.summand.coefficient c.point_value.result c.requires.limited (small c))
