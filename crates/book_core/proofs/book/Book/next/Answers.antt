use Rattle.std.proofs.Common.{rules}
use Rattle.stn_core.specs.declared.problem.Problem.{Problem}
use Rattle.book_core.specs.declared.event.Taken.TheVariants.{Idle}
use Rattle.book_core.specs.Shared.{lemmas_of}
use Rattle.book_core.specs.Books.{State, state_with, MayAnswer}
use Rattle.book_core.proofs.Runs.{outside}
use Rattle.book_core.proofs.book.Book.next.Goals as goal

pub returns-in-Some-first_held : goal.returns-in-Some-first_held
returns-in-Some-first_held c =
    let s : State = state_with c.self.inside.cover (lemmas_of c.self.inside.lemmas.items) c.self.inside.found in
    let r = c.in-Some-first_held.field-0 in
    outside (λ (p : Problem) (t : State). MayAnswer t Idle) c.self.inside.problem _ _ s _ c.self.view_is c.self.invariant.same
    (search rules, c.in-None.ensures.none, (r.0, r.1, c.in-Some-first_held.ensures.some))
