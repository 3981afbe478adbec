use Rattle.std.proofs.Common.{sym, ap, ◌∙◌, arith, rules}
use Rattle.book_lock.specs.Seats.{Sight, Place}
use Rattle.book_lock.proofs.Seating.{splits}
use Rattle.book_lock.proofs.Turning.{newcomer_kept}
use Rattle.book_lock.proofs.desk.Desk.split_seat.Goals as goal

pub split_seat-token-requires : goal.split_seat-token-requires
split_seat-token-requires c =
    let here = ap (λ (d : Place). d.id) c.self.view_is in
    let i = c.seat.invariant in (
      ap (λ (s : Sight). s.desk) c.seat.view_is ∙ (c.requires.desk ∙ sym here),
      omega (arith, c.self.invariant.0),
      splits _ _ _ (ap (λ (s : Sight). s.view.number) c.seat.view_is ∙ c.requires.first) i.4 i.3,
    )

pub invariant_of-result : goal.invariant_of-result
invariant_of-result c = newcomer_kept c.seat.inside.number c.seat.inside.made c.seat.inside.token.me c.split_seat-token.result.me _ _ c.seat.inside.cube c.seat.inside.place c.seat.inside.waits c.seat.invariant (search rules) (search rules)
