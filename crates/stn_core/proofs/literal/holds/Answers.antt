use Rattle.std.proofs.Common.{rules, arith, ◌≡◌, w64, ◌-ℤ◌, ◌≤ℤ◌, FitsSigned}
use Rattle.std.proofs.lemmas.Int.{ints, to_z-of_z}
use Rattle.std.specs.Int.{w128, saturate_signed}
use Rattle.stn_core.specs.Literal.{value_at}
use Rattle.stn_core.proofs.Saturating.{cut_holds, holds_cut}
use Rattle.stn_core.proofs.literal.holds.Goals as goal

pub returns : goal.returns
returns c =
    let x = value_at c.args.values.now c.args.literal.x in
    let y = value_at c.args.values.now c.args.literal.y in
    let bound_fits : FitsSigned w64 c.args.literal.c = search rules in
    let x_fits : FitsSigned w128 x = search rules in
    let y_fits : FitsSigned w128 y = search rules in
    let cut_fits : FitsSigned w128 c.saturating_sub.result = search rules in
    let from_fits : FitsSigned w128 c.from.result = search rules in
    let cut_is : c.saturating_sub.result ≡ saturate_signed w128 (x -ℤ y) = simp to_z-of_z at c.saturating_sub.ensures in
    let bound_is : c.from.result ≡ c.args.literal.c = simp to_z-of_z at c.from.ensures in (
      λ h. let test = simp to_z-of_z at h in cut_holds _ _ _ _ bound_fits cut_is bound_is (omega (arith, ints)),
      λ h. let test : c.saturating_sub.result ≤ℤ c.from.result = holds_cut _ _ _ _ bound_fits cut_is bound_is h in
          simp to_z-of_z (grind (arith, ints)),
    )
