use Rattle.std.proofs.Common.{arith, ap, sym, subst, ◌∙◌, ◌≡◌, ◌+◌, ◌<◌, ◌^◌, ◌++◌, ◌∷◌, [], ℕ, length, All}
use Rattle.std.specs.Arc.{arc_value}
use Rattle.std.proofs.lemmas.List.{length-map}
use Rattle.stn_core.specs.declared.problem.Problem.{Problem}
use Rattle.refute_tree.specs.declared.lemma.Lemma.{Lemma as Stated}
use Rattle.refute_tree.specs.Moves.{moved_number}
use Rattle.refute_tree.specs.Batches.{LemmaBatch, LemmaRefersBelow, moved}
use Rattle.cover_tree.specs.Covers.{cube_at}
use Rattle.book_core.specs.declared.event.Event.TheVariants.{Deliver}
use Rattle.book_core.specs.declared.event.Outcome.TheVariants.{Shut}
use Rattle.book_core.specs.Deliveries.{Handing}
use Rattle.book_core.specs.Shared.{lemmas_of}
use Rattle.book_core.specs.Runs.{state_of}
use Rattle.book_core.specs.Books.{State, state_with, IsJustified, cover_delivered}
use Rattle.book_core.proofs.Runs.{at_inside, inside, some_held, refers_below, number_of, published, state_is, count_delivered, kept_more}
use Rattle.book_core.proofs.book.Book.enter.Goals.{After-len-base}
use Rattle.book_core.proofs.book.Book.enter.Goals as goal

-- the delivery's parts are justified in the state that the book's parts show
justified_inside : (c : After-len-base)
    → IsJustified c.self.inside.problem (lemmas_of c.self.inside.lemmas.items) (cube_at c.self.inside.cover c.args.id) c.delivery.inside.batch c.delivery.inside.outcome
justified_inside c =
    let s : State = state_with c.self.inside.cover (lemmas_of c.self.inside.lemmas.items) c.self.inside.found in
    inside (λ (p : Problem) (t : State). IsJustified p t.lemmas (cube_at t.cover c.args.id) c.delivery.inside.batch c.delivery.inside.outcome) c.self.inside.problem _ _ s _ c.self.view_is c.self.invariant.same
    (subst (λ (h : Handing). IsJustified c.args.self.now.problem (state_of c.args.self.now).lemmas (cube_at (state_of c.args.self.now).cover c.args.id) h.batch h.outcome) (sym c.delivery.view_is) c.requires.justified)

base_is : (c : After-len-base) → c.len-base.result ≡ length (lemmas_of c.self.inside.lemmas.items)
base_is c = omega (arith, c.len-base.ensures, length-map c.self.inside.lemmas.items (λ a. arc_value {X = Stated} a))

pub prepare-requires-clause-below : goal.prepare-requires-clause-below
prepare-requires-clause-below c =
    let t = (goal.at.prepare-requires-clause-below c).After-len-base in
    let s : State = state_with c.self.inside.cover (lemmas_of c.self.inside.lemmas.items) c.self.inside.found in
    refers_below c.self.inside.problem s _ c.delivery.inside.batch c.delivery.inside.outcome (justified_inside t)

pub closing_number-number-requires : goal.closing_number-number-requires
closing_number-number-requires c =
    let t = (goal.at.closing_number-number-requires c).After-len-base in
    let s : State = state_with c.self.inside.cover (lemmas_of c.self.inside.lemmas.items) c.self.inside.found in
    let base = base_is t in
    subst (λ (n : ℕ). (j : ℕ) → c.delivery.inside.outcome ≡ Shut j → moved_number c.delivery.inside.batch.seen n j < 2 ^ 64) (sym base)
    (number_of c.self.inside.problem s _ c.delivery.inside.batch c.delivery.inside.outcome (justified_inside t) (omega (arith, base, c.in_ok-check_room.ensures)))

pub settle-requires-clause-held : goal.settle-requires-clause-held
settle-requires-clause-held c = (c.args.seat, at_inside _ _ _ _ _ c.args.id _ c.self.view_is c.self.invariant.same c.requires.held)

pub push_reserved-requires : goal.push_reserved-requires
push_reserved-requires c =
    let here = at_inside _ _ _ _ _ c.args.id _ c.self.view_is c.self.invariant.same c.requires.held in
    omega (arith, some_held c.self.inside.cover.nodes c.args.id c.args.seat here, c.self.invariant.reserved)

pub invariant_of-self-2 : goal.invariant_of-self-2
invariant_of-self-2 c =
    let t = (goal.at.invariant_of-self-2 c).After-len-base in
    let here = at_inside _ _ _ _ _ c.args.id _ c.self.view_is c.self.invariant.same c.requires.held in
    let s : State = state_with c.self.inside.cover (lemmas_of c.self.inside.lemmas.items) c.self.inside.found in
    let base = base_is t in
    let handed = c.in_ok-shared.ensures.handed in
    let shared = c.in_ok-shared.ensures.lemmas in
    let cover = c.in_ok-self-inside.ensures.cover c.delivery.inside.batch.seen c.len-base.result c.closing_number-number.ensures in
    kept_more _ _ _ _ s _ (Deliver c.args.seat c.args.id c.delivery.inside.batch c.delivery.inside.outcome) _ _ _ _ c.self.invariant (here, justified_inside t)
    (c.push_reserved.ensures.items ∙ ap (λ (b : LemmaBatch). c.self.inside.journal.items ++ Deliver c.args.seat c.args.id b c.delivery.inside.outcome ∷ []) handed)
    (state_is _ _ (cover ∙ ap (λ (n : ℕ). cover_delivered c.self.inside.cover c.args.id c.delivery.inside.batch.seen n c.delivery.inside.outcome) base)
    (published (λ a. arc_value {X = Stated} a) c.self.inside.lemmas.items _ _ _ c.len-base.result c.delivery.inside.batch c.publish.ensures c.reserve.ensures.items shared base)
    c.in_ok-self-inside.ensures.found)
    c.in_ok-self-inside.ensures.halves
    (omega (arith, count_delivered c.self.inside.cover c.settle.new.cover c.len-base.result c.args.id c.args.seat c.delivery.inside.batch.seen c.delivery.inside.outcome here cover, c.self.invariant.reserved, c.push_reserved.ensures.capacity))
