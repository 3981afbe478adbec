use Rattle.std.proofs.Common.{arith, ◌≡◌, ◌<ℤ◌, ◌≤ℤ◌, true, false, ℤ, ℕ, List, All, sym, subst}
use Rattle.std.proofs.lemmas.Int.{ints}
use Rattle.stn_core.specs.Solution.{IsSolution}
use Rattle.refute_tree.specs.Trees.{IsRefutation}
use Rattle.refute_tree.specs.Batches.{LemmaIsOver}
use Rattle.book_core.specs.Verdicts.{IsRight}
use Rattle.best_values.specs.Bests.{objective}
use Rattle.better_schedules.specs.code.Descents.{IsDescent, IsQuestion}
use Rattle.better_schedules.proofs.Descending.{within_limit, middle_most}
use Rattle.best_bound.specs.Answers.{IsBestAnswer}
use Rattle.best_bound.proofs.Ending.{least_is}
use Rattle.best_bound.proofs.hearing.hear.Goals as goal

pub least-requires : goal.least-requires
least-requires c = within_limit c.args.problem.now c.args.descent.incumbent.value c.requires.fits c.requires.question.near c.requires.descent.opening.most

pub returns-then-is_last : goal.returns-then-is_last
returns-then-is_last c =
    let question = c.requires.question in
    let right : IsRefutation c.args.question.now.problem.points c.args.question.now.problem.clauses c.in-Unsat.refutation × All (LemmaIsOver c.args.question.now.problem.points) c.in-Unsat.refutation = subst (IsRight c.args.question.now.problem) c.in-Unsat.is c.requires.right in
    subst (IsBestAnswer c.args.problem.now c.args.x c.args.y) (sym c.least.ensures) (least_is c.args.problem.now c.args.question.now.problem c.args.x c.args.y c.args.descent.incumbent c.args.question.now.bound.value c.in-Unsat.refutation c.requires.descent.opening.incumbent (within_limit c.args.problem.now c.args.descent.incumbent.value c.requires.fits question.near c.requires.descent.opening.most) question.asks (c.is_last.ensures.0 c.if-is_last.true) right.0 right.1)

pub returns-else-is_last : goal.returns-else-is_last
returns-else-is_last c =
    c.raised.ensures c.args.problem.now c.args.x c.args.y c.requires.descent c.requires.question.near c.requires.question.middle (λ same.
    let e : c.is_last.result ≡ true = c.is_last.ensures.1 same in
    let f : c.is_last.result ≡ false = c.if-is_last.false in
    absurd (cc))

pub improved-requires-clause-solution : goal.improved-requires-clause-solution
improved-requires-clause-solution c =
    let s : IsSolution c.args.question.now.problem c.in-Sat.schedule = subst (IsRight c.args.question.now.problem) c.in-Sat.is c.requires.right in
    (c.asked_law.ensures c.args.problem.now c.args.question.now.problem c.args.x c.args.y c.args.question.now.bound.value c.in-Sat.schedule c.requires.question.asks s).0

pub improved-requires-clause-less : goal.improved-requires-clause-less
improved-requires-clause-less c =
    let s : IsSolution c.args.question.now.problem c.in-Sat.schedule = subst (IsRight c.args.question.now.problem) c.in-Sat.is c.requires.right in
    let less : objective c.args.x c.args.y c.in-Sat.schedule <ℤ c.args.question.now.bound.value = (c.asked_law.ensures c.args.problem.now c.args.question.now.problem c.args.x c.args.y c.args.question.now.bound.value c.in-Sat.schedule c.requires.question.asks s).1 in
    let most : c.args.question.now.bound.value ≤ℤ c.args.descent.incumbent.value = middle_most c.args.descent.lower.value c.args.descent.incumbent.value c.args.question.now.bound.value c.requires.question.middle in
    omega (arith, ints)
