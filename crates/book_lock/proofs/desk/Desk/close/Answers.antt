use Rattle.std.proofs.Common.{◌≡◌, Option, Some, sym, ap, ◌∙◌, subst, rules, List}
use Rattle.std.specs.Prelude.{IsSome}
use mathlib.Core.Option.{some-injective}
use Rattle.book_core.specs.declared.event.Event.{Event}
use Rattle.cover_tree.specs.Covers.{NoneHeld}
use Rattle.book_core.specs.Books.{IsDone}
use Rattle.book_core.specs.Facts.{IsSound}
use Rattle.book_core.specs.Runs.{Ledger, state_of}
use Rattle.book_lock.specs.Begun.{Opens, Runs, with_events}
use Rattle.book_lock.specs.declared.view.View.{View}
use Rattle.book_lock.specs.Rules.{AllBegin}
use Rattle.book_lock.specs.Seats.{Sight, Place, AllJoined, AllKnown, WasDone, id_of}
use Rattle.book_lock.proofs.Seating.{closes}
use Rattle.book_lock.proofs.Ending.{none_held, was_done}
use Rattle.book_lock.proofs.desk.Desk.close.Goals as goal
use Rattle.book_lock.proofs.desk.Desk.close.Goals.{After-take}

at_end : (c : After-take) → (c.take.result ≡ Some (with_events c.self.inside.table.shared.key.value c.seat.inside.token.me.0.front)) × AllKnown c.seat.inside.token.me.0 × Runs c.self.inside.table.shared.key.value c.seat.inside.token.me.0.front × AllBegin c.seat.inside.token.me.0.kept c.seat.inside.token.me.0.front × Opens c.self.inside.table.shared.key.value
at_end c =
    let i = c.seat.invariant in
    let final = c.close_with-closed.ensures.values.2 in
    let v = c.seat.inside.token.me.0 in
    let same = ap (λ (s : Sight). s.view) c.seat.view_is in
    let k = closes _ _ v (ap (λ (s : Sight). s.view.number) c.seat.view_is ∙ c.requires.first) i.4 i.3 (subst AllJoined (sym same) c.requires.all) final.0 final.1.0 final.1.1 in
    (some-injective _ _ (sym c.take.ensures.value ∙ final.4 0 _ k.0), k.1, k.2, k.3, k.4)

pub unwrap-book-requires : goal.unwrap-book-requires
unwrap-book-requires c = let e = (at_end (goal.at.unwrap-book-requires c).After-take).0 in let P : Option Ledger → Type 0 = λ o. IsSome o in subst P (sym e) (search rules)

pub returns-clause-book : goal.returns-clause-book
returns-clause-book c =
    let e = (at_end (goal.at.returns-clause-book c).After-take).0 in
    let u : c.unwrap-book.result ≡ with_events c.self.inside.table.shared.key.value c.seat.inside.token.me.0.front = cc (c.unwrap-book.ensures, e) in
    u ∙ (λ i. with_events (ap (λ (d : Place). d.begun) c.self.view_is i) (ap (λ (s : Sight). s.view.front) c.seat.view_is i))

pub returns-clause-known : goal.returns-clause-known
returns-clause-known c = subst AllKnown (ap (λ (s : Sight). s.view) c.seat.view_is) (at_end (goal.at.returns-clause-known c).After-take).1

pub returns-clause-fronts : goal.returns-clause-fronts
returns-clause-fronts c = subst (λ (v : View). AllBegin v.kept v.front) (ap (λ (s : Sight). s.view) c.seat.view_is) (at_end (goal.at.returns-clause-fronts c).After-take).3

pub returns-clause-run : goal.returns-clause-run
returns-clause-run c = subst (λ (t : Ledger × List Event). Runs t.0 t.1) (λ i. (ap (λ (d : Place). d.begun) c.self.view_is i, ap (λ (s : Sight). s.view.front) c.seat.view_is i)) (at_end (goal.at.returns-clause-run c).After-take).2

pub returns-clause-free : goal.returns-clause-free
returns-clause-free c =
    let t = (goal.at.returns-clause-free c).After-take in
    let e = at_end t in
    let i = c.seat.invariant in
    let u : c.unwrap-book.result ≡ with_events c.self.inside.table.shared.key.value c.seat.inside.token.me.0.front = cc (c.unwrap-book.ensures, e.0) in
    subst (λ (b : Ledger). NoneHeld (state_of b).cover) (sym u)
    (none_held c.self.inside.table.shared.key.value c.seat.inside.token.me.0 e.2 e.1 (i.6.orderly, i.6.held ∙ ap id_of (ap (λ (s : Sight). s.cube) c.seat.view_is ∙ c.requires.none)) i.6.kept)

pub returns-clause-done : goal.returns-clause-done
returns-clause-done c =
    let t = (goal.at.returns-clause-done c).After-take in
    let e = at_end t in
    let u : c.unwrap-book.result ≡ with_events c.self.inside.table.shared.key.value c.seat.inside.token.me.0.front = cc (c.unwrap-book.ensures, e.0) in
    λ h. subst (λ (b : Ledger). IsDone (state_of b)) (sym u)
    (was_done c.self.inside.table.shared.key.value c.seat.inside.token.me.0.front e.2 (subst (λ (s : Sight). WasDone s.view.front) (sym c.seat.view_is) h))

pub returns-clause-sound : goal.returns-clause-sound
returns-clause-sound c =
    let t = (goal.at.returns-clause-sound c).After-take in
    let e = at_end t in
    let p = c.self.inside.table.shared.key.value in
    let u : c.unwrap-book.result ≡ with_events p c.seat.inside.token.me.0.front = cc (c.unwrap-book.ensures, e.0) in
    subst (λ (t : Ledger × Ledger). IsSound t.0.problem (state_of t.1)) (λ i. (ap (λ (d : Place). d.begun) c.self.view_is i, sym u i))
    (c.sound_law.ensures p.problem p.opening c.seat.inside.token.me.0.front e.4 e.2)
