use Rattle.std.proofs.Common.{rules, arith, refl, ◌≡◌, w64, FitsSigned, ◌+ℤ◌}
use Rattle.std.specs.Int.{w128}
use Rattle.std.proofs.lemmas.Int.{to_z-of_z}
use Rattle.std.proofs.lemmas.Grind.{common_steps}
use Rattle.stn_core.specs.Literal.{value_at, most_allowed}
use Rattle.inc_paths.proofs.labels.Labels.allowed.Goals as goal

pub overflow_add-result : goal.overflow_add-result
overflow_add-result c =
    let y : c.index.result.now ≡ value_at c.args.self.now.values c.args.literal.y = grind (arith, common_steps) in
    let bound_fits : FitsSigned w64 c.args.literal.c = search rules in
    let y_fits : FitsSigned w128 c.index.result.now = search rules in
    let from_fits : FitsSigned w128 c.from.result = search rules in
    let bound_is : c.from.result ≡ c.args.literal.c = simp to_z-of_z at c.from.ensures in
    let fits : FitsSigned w128 (c.index.result.now +ℤ c.from.result) = rw (y, bound_is) c.requires.fits in
    simp to_z-of_z fits

pub returns : goal.returns
returns c =
    let y : c.index.result.now ≡ value_at c.args.self.now.values c.args.literal.y = grind (arith, common_steps) in
    let bound_fits : FitsSigned w64 c.args.literal.c = search rules in
    let y_fits : FitsSigned w128 c.index.result.now = search rules in
    let from_fits : FitsSigned w128 c.from.result = search rules in
    let bound_is : c.from.result ≡ c.args.literal.c = simp to_z-of_z at c.from.ensures in
    let fits : FitsSigned w128 (c.index.result.now +ℤ c.from.result) = rw (y, bound_is) c.requires.fits in
    let sum : c.index.result.now +ℤ c.from.result ≡ most_allowed c.args.self.now.values c.args.literal = rw (y, bound_is) refl in
    simp to_z-of_z sum
