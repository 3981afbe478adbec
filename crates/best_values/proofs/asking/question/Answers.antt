use Rattle.std.proofs.Common.{rules, arith, ◌≡◌, ℤ, FitsSigned}
use Rattle.std.specs.Int.{w128}
use Rattle.std.proofs.lemmas.Int.{ints, to_z-of_z}
use Rattle.stn_core.specs.Literal.{IsOver}
use Rattle.best_values.specs.Widths.{IsWithinLimit}
use Rattle.best_values.specs.Questions.{below, clauses_below}
use Rattle.best_values.proofs.Asked.{asked_over}
use Rattle.best_values.proofs.asking.question.Goals as goal

pub invariant_of-result : goal.invariant_of-result
invariant_of-result c =
    let is : c.new.result ≡ clauses_below c.args.problem.now c.args.x c.args.y c.args.value = search rules in
    let fits : FitsSigned w128 c.args.value = search rules in
    let size : IsWithinLimit c.args.value = c.requires.value in
    let low = size.low in
    let high = size.high in
    let over : IsOver c.args.problem.now.points (below c.args.x c.args.y c.args.value) = record { x_in = c.requires.x_in; y_in = c.requires.y_in; low = omega (arith, ints); high = omega (arith, ints) } in
    record {
      some = c.args.problem.now.some;
      few = c.args.problem.now.few;
      over = asked_over c.args.problem.now c.args.x c.args.y c.args.value c.new.result is over;
    }
