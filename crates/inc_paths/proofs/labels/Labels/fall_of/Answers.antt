use Rattle.std.proofs.Common.{rules, arith, refl, ap, ◌∙◌, ◌≡◌, FitsSigned, ◌-ℤ◌}
use Rattle.std.specs.Int.{w128}
use Rattle.std.specs.Prelude.{unsigned_abs}
use Rattle.std.proofs.lemmas.Int.{to_z-of_z}
use Rattle.std.proofs.lemmas.Grind.{common_steps}
use Rattle.stn_core.specs.Literal.{value_at}
use Rattle.inc_paths.specs.code.Trails.{Labelled, first_of}
use Rattle.inc_paths.proofs.labels.Labels.fall_of.Goals as goal

pub returns : goal.returns
returns c =
    let began : c.self.inside.before.items ≡ first_of c.args.self.now.start c.args.self.now.trail c.args.self.now.values = c.self.invariant.0.began ∙ ap (λ (l : Labelled). first_of l.start l.trail l.values) c.self.view_is in
    let x : c.index.result.now ≡ value_at c.self.inside.before.items c.args.literal.x = grind (arith, common_steps) in
    let fx : FitsSigned w128 c.index.result.now = search rules in
    let fy : FitsSigned w128 c.allowed-now.result = search rules in
    let e : c.abs_diff.result ≡ unsigned_abs (c.index.result.now -ℤ c.allowed-now.result) = simp to_z-of_z at c.abs_diff.ensures in
    e ∙ rw (x, c.allowed-now.ensures, began) refl
