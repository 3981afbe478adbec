use Rattle.std.proofs.Common.{rules, FitsSigned, ◌≡◌, ◌≤ℤ◌, neg_ℤ, true, false}
use Rattle.std.specs.Int.{w128}
use Rattle.std.proofs.lemmas.Int.{to_z-of_z}
use Rattle.best_values.specs.Questions.{Asks}
use Rattle.best_values.specs.Widths.{IsWithinLimit}
use Rattle.better_schedules.specs.Near.{span}
use Rattle.better_schedules.proofs.Descending.{middle_within}
use Rattle.better_schedules.proofs.descent.Descent.ask.Goals as goal

pub question-requires-clause-value : goal.question-requires-clause-value
question-requires-clause-value c =
    let fits : FitsSigned w128 c.args.self.now.incumbent.value = search rules in
    let near : neg_ℤ (span c.args.problem.now) ≤ℤ c.args.self.now.incumbent.value = simp to_z-of_z at (c.is_near.ensures.0 c.if-not-is_near.false) in
    let bound_fits : FitsSigned w128 c.middle-bound.result.value = search rules in
    let within : IsWithinLimit c.middle-bound.result.value = middle_within c.args.problem.now c.args.self.now.lower.value c.args.self.now.incumbent.value c.middle-bound.result.value c.requires.fits c.requires.descent.floor near c.requires.descent.opening.most c.middle-bound.ensures in
    simp to_z-of_z within

pub returns-then-not-is_near : goal.returns-then-not-is_near
returns-then-not-is_near c =
    let fits : FitsSigned w128 c.args.self.now.incumbent.value = search rules in
    λ near. let e : c.is_near.result ≡ true = c.is_near.ensures.1 (simp to_z-of_z near) in
    let f : c.is_near.result ≡ false = c.if-not-is_near.true in
    absurd (cc)

pub returns : goal.returns
returns c =
    let fits : FitsSigned w128 c.args.self.now.incumbent.value = search rules in
    let near : neg_ℤ (span c.args.problem.now) ≤ℤ c.args.self.now.incumbent.value = simp to_z-of_z at (c.is_near.ensures.0 c.if-not-is_near.false) in
    let bound_fits : FitsSigned w128 c.middle-bound.result.value = search rules in
    let asks : Asks c.args.problem.now c.args.x c.args.y c.middle-bound.result.value c.in_ok-asked.asked = simp to_z-of_z at c.in_ok-asked.ensures in
    record { near = near; asks = asks; middle = c.middle-bound.ensures }
