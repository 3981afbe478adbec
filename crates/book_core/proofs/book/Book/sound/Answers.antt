use Rattle.std.proofs.Common.{subst}
use Rattle.book_core.specs.Facts.{IsSound}
use Rattle.book_core.specs.Books.{IsOpening}
use Rattle.book_core.specs.Runs.{Ledger, IsRun}
use Rattle.book_core.proofs.Runs.{outside}
use Rattle.book_core.proofs.Concluding.{kept_sound}
use Rattle.book_core.proofs.book.Book.sound.Goals as goal

pub returns-clause-run : goal.returns-clause-run
returns-clause-run c = subst (λ (b : Ledger). IsRun b.problem b.opening b.journal) c.self.view_is c.self.invariant.run

pub returns-clause-sound : goal.returns-clause-sound
returns-clause-sound c = outside IsSound c.self.inside.problem _ _ _ _ c.self.view_is c.self.invariant.same (kept_sound c.self.inside.problem _ _ _ _ _ c.self.invariant)

pub returns-clause-opening : goal.returns-clause-opening
returns-clause-opening c = subst (λ (b : Ledger). IsOpening b.problem b.opening) c.self.view_is c.self.invariant.opens
