use Rattle.std.proofs.Common.{All, sym, subst}
use Rattle.book_core.specs.Books.{IsOpening}
use Rattle.refute_tree.specs.Batches.{LemmaIsOver}
use Rattle.reduced_problem.proofs.reduction.assemble.Goals as goal

pub clauses_from-requires : goal.clauses_from-requires
clauses_from-requires c =
    let opening : IsOpening c.args.problem.now c.new-batch.result.lemmas = c.in_ok-may_open.ensures c.if-not-branch.false in
    record { over = subst (All (LemmaIsOver c.args.problem.now.points)) (sym c.lemmas.ensures) opening.over }
