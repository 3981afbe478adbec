use Rattle.std.proofs.Common.{rules, arith, ◌≡◌, ◌<ℤ◌, ◌≤ℤ◌, ◌∷◌, [], true, false, All, Some, sym, subst}
use Rattle.refute_tree.specs.Trees.{IsRefutation}
use Rattle.refute_tree.specs.Batches.{LemmaIsOver}
use Rattle.book_core.specs.Verdicts.{IsRight}
use Rattle.better_schedules.proofs.Descending.{within_limit, middle_most}
use Rattle.kept_search.specs.declared.reply.Reply.TheVariants.{Holds, Denied, Open}
use Rattle.best_bound.specs.Answers.{IsBestAnswer}
use Rattle.best_bound.proofs.Replies.{cube_over, replied, less, asks_more, bound_within}
use Rattle.best_bound.proofs.Ending.{least_is}
use Rattle.best_bound.proofs.asking.ask_kept.Goals as goal

pub under-requires-clause-over : goal.under-requires-clause-over
under-requires-clause-over c =
    let within = bound_within c.args.problem.now c.args.x c.args.y c.args.descent c.args.question c.requires.fits c.requires.descent c.requires.question in
    cube_over c.args.problem.now c.args.x c.args.y c.args.question.bound.value c.literal_of-literal.result c.as_slice.result.now c.requires.x_in c.requires.y_in within c.literal_of-literal.ensures c.as_slice.ensures

pub improved-requires-clause-less : goal.improved-requires-clause-less
improved-requires-clause-less c =
    let next = replied c.args.problem.now c.literal_of-literal.result c.as_slice.result.now c.under.new.self (Holds c.in-Holds.schedule) c.in_ok-schedule.field-0 c.as_slice.ensures c.in-Holds.is c.in_ok-schedule.ensures in
    less c.args.x c.args.y c.args.question.bound.value c.args.descent.incumbent.value c.literal_of-literal.result c.in-Holds.schedule c.literal_of-literal.ensures next.right.1
    (middle_most c.args.descent.lower.value c.args.descent.incumbent.value c.args.question.bound.value c.requires.question.middle)

pub refutation_with-requires-clause-asked : goal.refutation_with-requires-clause-asked
refutation_with-requires-clause-asked c = asks_more c.args.problem.now c.args.question.problem c.args.x c.args.y c.args.question.bound.value c.literal_of-literal.result c.literal_of-literal.ensures c.requires.question.asks

pub refutation_with-requires-clause-denied : goal.refutation_with-requires-clause-denied
refutation_with-requires-clause-denied c =
    let next = replied c.args.problem.now c.literal_of-literal.result c.as_slice.result.now c.under.new.self (Denied c.in-Denied.j) c.in_ok-schedule.field-0 c.as_slice.ensures c.in-Denied.is c.in_ok-schedule.ensures in
    next.right

pub returns-else-is_last : goal.returns-else-is_last
returns-else-is_last c =
    let next = replied c.args.problem.now c.literal_of-literal.result c.as_slice.result.now c.under.new.self (Denied c.in-Denied.j) c.in_ok-schedule.field-0 c.as_slice.ensures c.in-Denied.is c.in_ok-schedule.ensures in
    record {
      asked = c.raised-next.ensures c.args.problem.now c.args.x c.args.y c.requires.descent c.requires.question.near c.requires.question.middle (λ same.
          (let e : c.is_last.result ≡ true = c.is_last.ensures.1 same in
          let f : c.is_last.result ≡ false = c.if-is_last.false in
          absurd (cc)));
      search = next.of;
    }

pub literal_of-literal-requires : goal.literal_of-literal-requires
literal_of-literal-requires c = bound_within c.args.problem.now c.args.x c.args.y c.args.descent c.args.question c.requires.fits c.requires.descent c.requires.question

pub least-best-requires : goal.least-best-requires
least-best-requires c = within_limit c.args.problem.now c.args.descent.incumbent.value c.requires.fits c.requires.question.near c.requires.descent.opening.most

pub returns-then-is_last : goal.returns-then-is_last
returns-then-is_last c =
    let question = c.requires.question in
    let within = within_limit c.args.problem.now c.args.descent.incumbent.value c.requires.fits question.near c.requires.descent.opening.most in
    let right = c.in_ok-refutation-in-Denied.ensures in
    let best : IsBestAnswer c.args.problem.now c.args.x c.args.y c.least-best.result = subst (IsBestAnswer c.args.problem.now c.args.x c.args.y) (sym c.least-best.ensures)
    (least_is c.args.problem.now c.args.question.problem c.args.x c.args.y c.args.descent.incumbent c.args.question.bound.value c.in_ok-refutation-in-Denied.refutation c.requires.descent.opening.incumbent within question.asks (c.is_last.ensures.0 c.if-is_last.true) right.0 right.1) in
    record { asked = best; search = tt }
