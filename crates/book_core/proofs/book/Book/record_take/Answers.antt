use Rattle.std.proofs.Common.{arith, ap, refl, ◌∙◌, List, [], ◌∷◌, ◌++◌}
use Rattle.stn_core.specs.declared.problem.Problem.{Problem}
use Rattle.book_core.specs.declared.event.Event.{Event}
use Rattle.book_core.specs.declared.event.Event.TheVariants.{Take}
use Rattle.book_core.specs.Shared.{lemmas_of}
use Rattle.book_core.specs.Books.{State, state_with, MayAnswer}
use Rattle.book_core.proofs.Runs.{inside, count_held, kept_more, with_cover}
use Rattle.book_core.proofs.book.Book.record_take.Goals as goal

pub invariant_of-self-2 : goal.invariant_of-self-2
invariant_of-self-2 c =
    let s : State = state_with c.self.inside.cover (lemmas_of c.self.inside.lemmas.items) c.self.inside.found in
    let e : Event = Take c.args.seat c.args.taken in
    let may = inside (λ (p : Problem) (t : State). MayAnswer t c.args.taken) c.self.inside.problem _ _ s _ c.self.view_is c.self.invariant.same c.requires in
    let count = count_held s _ c.args.seat c.args.taken may c.hold.ensures in
    kept_more _ _ _ _ s _ e _ _ _ _ c.self.invariant may (c.push_reserved.ensures.items ∙ ap (λ (es : List Event). es ++ e ∷ []) c.in_ok-reserve.ensures.items) (ap (with_cover s) c.hold.ensures) refl
    (omega (arith, count, c.held_count-held.ensures, c.in_ok-reserve.ensures.ok, c.in_ok-reserve.ensures.len, c.push_reserved.ensures.capacity))
