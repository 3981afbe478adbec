use Rattle.std.proofs.Common.{rules, arith, ap, ◌∙◌, ◌≡◌, w64, ◌-ℤ◌, FitsSigned}
use Rattle.std.specs.Int.{w128, saturate_signed}
use Rattle.std.proofs.lemmas.Int.{to_z-of_z}
use Rattle.stn_core.specs.Literal.{value_at}
use Rattle.idl_node.specs.Truth.{point_values}
use Rattle.idl_node.proofs.Comparing.{cut_test}
use Rattle.idl_node.proofs.truth.literal_holds.Goals as goal

pub returns : goal.returns
returns c =
    let values = point_values c.args.values.now in
    let bound_fits : FitsSigned w64 c.args.literal.c = search rules in
    let x_fits : FitsSigned w128 c.point_value-x.result = search rules in
    let y_fits : FitsSigned w128 c.point_value-y.result = search rules in
    let cut_fits : FitsSigned w128 c.saturating_sub.result = search rules in
    let from_fits : FitsSigned w128 c.from.result = search rules in
    let difference : c.saturating_sub.result ≡ saturate_signed w128 (c.point_value-x.result -ℤ c.point_value-y.result) = simp to_z-of_z at c.saturating_sub.ensures in
    let cut_is : c.saturating_sub.result ≡ saturate_signed w128 (value_at values c.args.literal.x -ℤ value_at values c.args.literal.y) = rw (← c.point_value-x.ensures, ← c.point_value-y.ensures) difference in
    let bound_is : c.from.result ≡ c.args.literal.c = simp to_z-of_z at c.from.ensures in
    simp to_z-of_z (cut_test _ _ _ _ bound_fits cut_is bound_is)
