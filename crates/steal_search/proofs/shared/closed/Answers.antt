use Rattle.std.proofs.Common.{◌∙◌, ap}
use Rattle.book_core.specs.Runs.{Ledger}
use Rattle.steal_search.proofs.shared.closed.Goals as goal

-- the closed book is of this problem, and no cube of it is held
pub returns-clause-waiting : goal.returns-clause-waiting
returns-clause-waiting g c = record {
  problem_is = ap (λ (b : Ledger). b.problem) c.close.ensures.book ∙ ap (λ (b : Ledger). b.problem) c.in_ok-desk.ensures.0 ∙ c.in_ok-copy.ensures ∙ c.problem.ensures;
  none_held = c.close.ensures.free;
}

pub returns-clause-opening : goal.returns-clause-opening
returns-clause-opening g c = ap (λ (b : Ledger). b.opening) c.close.ensures.book ∙ ap (λ (b : Ledger). b.opening) c.in_ok-desk.ensures.0
