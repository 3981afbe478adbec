use Rattle.std.proofs.Common.{subst, Some}
use Rattle.std.specs.Prelude.{IfOk, Result}
use Rattle.book_core.specs.declared.verdict.Verdict.{Verdict}
use Rattle.book_core.specs.Runs.{Ledger, state_of}
use Rattle.book_core.specs.Shared.{lemmas_of}
use Rattle.book_core.specs.Verdicts.{Concludes}
use Rattle.book_search.proofs.Learned.{begins_with, learned_is}
use Rattle.book_search.proofs.solved.conclude.Goals as goal

pub returns-in-Ok-clause-first : goal.returns-in-Ok-clause-first
returns-in-Ok-clause-first c =
    let concluded = subst (λ (r : Result Verdict Ledger). IfOk r (λ (v : Verdict). Concludes c.args.book.problem (state_of c.args.book) (Some v))) c.in-Ok.is c.in_ok-verdict.ensures.verdict in
    begins_with c.args.book c.in-Ok.verdict (lemmas_of c.in_ok-lemmas.lemmas.items) (learned_is (state_of c.args.book) c.in-Ok.verdict (lemmas_of c.in_ok-lemmas.lemmas.items) c.in_ok-lemmas.ensures.all concluded.2)
