use Rattle.std.proofs.Common.{arith, ap, refl}
use Rattle.book_core.specs.declared.event.Event.TheVariants.{Release}
use Rattle.book_core.specs.Shared.{lemmas_of}
use Rattle.book_core.specs.Books.{State, state_with}
use Rattle.book_core.proofs.Runs.{at_inside, some_held, count_freed, kept_more, with_cover}
use Rattle.book_core.proofs.book.Book.release.Goals as goal

pub release-requires : goal.release-requires
release-requires c = (c.args.seat, at_inside _ _ _ _ _ c.args.id _ c.self.view_is c.self.invariant.same c.requires)

pub push_reserved-requires : goal.push_reserved-requires
push_reserved-requires c =
    let here = at_inside _ _ _ _ _ c.args.id _ c.self.view_is c.self.invariant.same c.requires in
    omega (arith, some_held c.self.inside.cover.nodes c.args.id c.args.seat here, c.self.invariant.reserved)

pub invariant_of-self : goal.invariant_of-self
invariant_of-self c =
    let here = at_inside _ _ _ _ _ c.args.id _ c.self.view_is c.self.invariant.same c.requires in
    let count = count_freed _ _ c.args.id _ here c.release.ensures in
    let room = c.self.invariant.reserved in
    let s : State = state_with c.self.inside.cover (lemmas_of c.self.inside.lemmas.items) c.self.inside.found in
    kept_more _ _ _ _ s _ (Release c.args.seat c.args.id) _ _ _ _ c.self.invariant here c.push_reserved.ensures.items (ap (with_cover s) c.release.ensures) refl (omega (arith, c.push_reserved.ensures.capacity))
