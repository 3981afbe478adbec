use Rattle.std.proofs.Common.{rules, arith, ◌≡◌}
use Rattle.std.proofs.lemmas.Int.{ints}
use Rattle.stn_core.specs.Literal.{IsOver}
use Rattle.best_values.specs.Widths.{IsWithinLimit}
use Rattle.best_values.specs.Questions.{below, clauses_below}
use Rattle.best_values.proofs.Asked.{asked_over}
use Rattle.dtp_check.proofs.asking.with_question.Goals as goal

pub invariant_of-result : goal.invariant_of-result
invariant_of-result c =
    let is : c.new.result ≡ clauses_below c.args.problem c.args.x c.args.y c.args.value = search rules in
    let size : IsWithinLimit c.args.value = c.requires.value in
    let low = size.low in
    let high = size.high in
    let over : IsOver c.args.problem.points (below c.args.x c.args.y c.args.value) = record { x_in = c.requires.x_in; y_in = c.requires.y_in; low = omega (arith, ints); high = omega (arith, ints) } in
    record {
      some = c.args.problem.some;
      few = c.args.problem.few;
      over = asked_over c.args.problem c.args.x c.args.y c.args.value c.new.result is over;
    }
