use Rattle.std.proofs.Common.{rules, arith, ◌≡◌, sym, subst, List, ℤ, FitsSigned, ◌<ℤ◌, ◌≤ℤ◌}
use Rattle.std.specs.Int.{w128}
use Rattle.std.proofs.lemmas.Int.{ints, to_z-of_z}
use Rattle.stn_core.specs.Problem.{ProblemHolds}
use Rattle.stn_core.proofs.Rounds.{below_from_test}
use Rattle.std.specs.Prelude.{Option, IfSome}
use Rattle.stn_core.specs.Solution.{IsSolution}
use Rattle.best_values.specs.Bests.{objective}
use Rattle.better_schedules.proofs.Descending.{incumbent_of}
use Rattle.better_schedules.proofs.incumbent.improved.Goals as goal

pub tightened-requires-clause-holds : goal.tightened-requires-clause-holds
tightened-requires-clause-holds c = subst (λ (vs : List ℤ). ProblemHolds vs c.args.problem.now.clauses) (sym c.as_slice.ensures) c.requires.solution.holds

pub returns-then-better-found : goal.returns-then-better-found
returns-then-better-found c =
    let better_fits : FitsSigned w128 c.valued-better.result.value = search rules in
    let found_fits : FitsSigned w128 c.valued-found.result.value = search rules in
    let test = simp to_z-of_z at c.if-better-found.true in
    let less : c.valued-better.result.value <ℤ c.valued-found.result.value = below_from_test _ _ test in
    let found : c.valued-found.result.value ≡ objective c.args.x c.args.y c.args.schedule = c.valued-found.ensures.value in
    let most : c.valued-better.result.value ≤ℤ objective c.args.x c.args.y c.args.schedule = omega (arith, ints) in
    let other : IsSolution c.args.problem.now c.in-Some.other = subst (λ (o : Option (List ℤ)). IfSome o (IsSolution c.args.problem.now)) c.in-Some.is c.in_ok-tight.ensures in
    incumbent_of c.args.problem.now c.args.x c.args.y (objective c.args.x c.args.y c.args.schedule) c.in-Some.other c.valued-better.result other c.valued-better.ensures.schedule c.valued-better.ensures.value most
