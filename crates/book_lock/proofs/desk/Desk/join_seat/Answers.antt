use Rattle.std.proofs.Common.{◌≡◌, [], List, sym, ap, ◌∙◌, subst, arith, rules}
use Rattle.book_core.specs.declared.event.Event.{Event}
use Rattle.book_lock.specs.Rules.{Mine, Seen}
use Rattle.book_lock.specs.Seats.{Sight, Place, merged}
use Rattle.book_lock.proofs.Seating.{joins, join_fronts}
use Rattle.book_lock.proofs.Turning.{merged_kept}
use Rattle.book_lock.proofs.desk.Desk.join_seat.Goals as goal

pub join_seat-requires : goal.join_seat-requires
join_seat-requires c =
    let here = ap (λ (d : Place). d.id) c.self.view_is in
    let i = c.seat.invariant in
    let o = c.other.invariant in (
      ap (λ (s : Sight). s.desk) c.seat.view_is ∙ (c.requires.desk.0 ∙ sym here),
      ap (λ (s : Sight). s.desk) c.other.view_is ∙ (c.requires.desk.1 ∙ sym here),
      o.2,
      omega (arith, c.self.invariant.0),
      joins _ _ _ (ap (λ (s : Sight). s.view.number) c.seat.view_is ∙ c.requires.first) i.4 i.3 _ _ o.4 o.3,
    )

pub invariant_of-seat : goal.invariant_of-seat
invariant_of-seat c =
    let i = c.seat.invariant in
    let o = c.other.invariant in
    merged_kept c.seat.inside.number c.seat.inside.made c.other.inside.number c.other.inside.made c.seat.inside.token.me c.other.inside.token.me c.see.new.token.me _ _ c.seat.inside.cube c.other.inside.cube c.seat.inside.place c.other.inside.place c.seat.inside.waits c.other.inside.waits i o
    (ap (λ (s : Sight). s.cube) c.other.view_is ∙ c.requires.none) (search rules)
    (let at : c.join_seat.new.seat.me ≡ (merged c.seat.inside.token.me.0 c.other.inside.token.me.0, []) = search rules in subst (λ (m : Mine). (log : List Event) × Seen m.0 log) at c.see.ensures.seen)

pub returns-clause-fronts : goal.returns-clause-fronts
returns-clause-fronts c =
    let i = c.seat.invariant in
    let s = ap (λ (x : Sight). x.view) c.seat.view_is in
    let o = ap (λ (x : Sight). x.view) c.other.view_is in
    join_fronts c.seat.inside.token.me.0 c.other.inside.token.me.0 _ _ c.join_seat.new.seat.me c.see.new.token.me c.see.ensures.same.2 (search rules) s o (ap (λ (x : Sight). x.view.number) c.seat.view_is ∙ c.requires.first) c.see.ensures.seen
