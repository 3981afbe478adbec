use Rattle.std.proofs.Common.{arith, to_z, of_z, ℤ, List, Option, sym, subst}
use Rattle.std.specs.Int.{w128}
use Rattle.std.specs.Prelude.{IfSome}
use Rattle.std.proofs.lemmas.Int.{ints, to_z-of_z}
use Rattle.stn_core.specs.Solution.{IsSolution}
use Rattle.refute_tree.specs.Trees.{IsRefutation}
use Rattle.best_values.specs.Questions.{clauses_below}
use Rattle.best_values.specs.Widths.{IsWithinLimit}
use Rattle.reduced_problem.proofs.Steps.{of_same}
use Rattle.reduced_problem.proofs.reduction.Reduction.least.Goals as goal

pub returns : goal.returns
returns c =
    let e = to_z-of_z _ _ c.ranges.value in
    let low = c.requires.least.within.low in
    let high = c.requires.least.within.high in
    let refuted : ℤ → Type 0 = λ v. IsRefutation c.args.problem.now.points (clauses_below c.args.problem.now c.args.x c.args.y v) c.in_ok-all.all in
    record {
      solution = subst (λ (o : Option (List ℤ)). IfSome o (IsSolution c.args.problem.now)) c.in-Some.is c.in_ok-schedule.ensures;
      attained = c.attains.ensures c.if-not-attains.false;
      within = subst IsWithinLimit (sym e) c.requires.least.within;
      refuted = subst refuted (sym e) (of_same refuted (to_z w128 (of_z w128 c.from.result)) c.args.value c.in_ok-all.ensures.refuted (omega (arith, ints, low, high, c.from.ensures)));
      over = c.in_ok-all.ensures.over;
    }
