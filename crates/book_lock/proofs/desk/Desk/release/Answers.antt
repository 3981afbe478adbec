use Rattle.std.proofs.Common.{refl, ◌≡◌, Some, ◌∙◌, rules}
use Rattle.book_core.specs.declared.event.Event.TheVariants.{Release}
use Rattle.book_lock.proofs.Turning.{held_by_number, held_in_book, ending_ready, ending_kept, ending_ends}
use Rattle.book_lock.proofs.desk.Desk.release.Goals as goal

pub release-requires : goal.release-requires
release-requires g c =
    held_in_book c.seat.inside.number c.seat.inside.made c.seat.inside.token.me _ c.seat.inside.cube c.seat.inside.place c.seat.inside.waits c.take_turn-book.result c.unwrap-cube.result c.seat.invariant c.take_turn-book.ensures.known (search rules) c.take_turn-book.ensures.book

pub tell-seat-inside-requires-clause-book : goal.tell-seat-inside-requires-clause-book
tell-seat-inside-requires-clause-book g c =
    let t = c.take_turn-book.ensures in
    let has : c.seat.inside.cube ≡ Some c.unwrap-cube.result = search rules in
    ending_ready c.seat.inside.token.me c.take_turn-book.result c.release.new.self c.take_turn-book.new.token.me c.take_turn-book.new.token.me c.seat.inside.number c.seat.inside.made _ c.seat.inside.cube c.seat.inside.cube c.seat.inside.place 0 c.seat.inside.waits c.seat.inside.token.table_id c.seat.inside.token.table_id c.unwrap-cube.result (λ n k. Release n k) t.book t.view t.known c.seat.invariant has refl refl refl refl (held_by_number c.seat.inside.number c.seat.inside.made c.seat.inside.token.me _ c.seat.inside.cube c.seat.inside.place c.seat.inside.waits c.take_turn-book.result c.unwrap-cube.result c.seat.invariant c.take_turn-book.ensures.known has) c.release.ensures

pub invariant_of-seat : goal.invariant_of-seat
invariant_of-seat g c =
    let t = c.take_turn-book.ensures in
    let e = c.tell-seat-inside.ensures in
    let has : c.seat.inside.cube ≡ Some c.unwrap-cube.result = search rules in
    ending_kept c.seat.inside.token.me c.take_turn-book.result c.release.new.self c.take_turn-book.new.token.me c.tell-seat-inside.new.token.me c.seat.inside.number c.seat.inside.made _ c.seat.inside.cube c.take.new.self c.seat.inside.place c.tell-seat-inside.result c.seat.inside.waits c.seat.inside.token.table_id c.tell-seat-inside.new.token.table_id c.unwrap-cube.result (λ n k. Release n k) t.book t.view t.known c.seat.invariant has refl refl refl refl (held_by_number c.seat.inside.number c.seat.inside.made c.seat.inside.token.me _ c.seat.inside.cube c.seat.inside.place c.seat.inside.waits c.take_turn-book.result c.unwrap-cube.result c.seat.invariant c.take_turn-book.ensures.known has) c.release.ensures e.view e.count (search rules)

pub returns : goal.returns
returns g c =
    let t = c.take_turn-book.ensures in
    let e = c.tell-seat-inside.ensures in
    let has : c.seat.inside.cube ≡ Some c.unwrap-cube.result = search rules in
    ending_ends c.seat.inside.token.me c.take_turn-book.result c.release.new.self c.take_turn-book.new.token.me c.tell-seat-inside.new.token.me c.seat.inside.number c.seat.inside.made _ c.seat.inside.cube c.take.new.self c.seat.inside.place c.tell-seat-inside.result c.seat.inside.waits c.seat.inside.token.table_id c.tell-seat-inside.new.token.table_id c.unwrap-cube.result (λ n k. Release n k) t.book t.view t.known c.seat.invariant has refl refl refl refl (held_by_number c.seat.inside.number c.seat.inside.made c.seat.inside.token.me _ c.seat.inside.cube c.seat.inside.place c.seat.inside.waits c.take_turn-book.result c.unwrap-cube.result c.seat.invariant c.take_turn-book.ensures.known has) c.release.ensures _ c.seat.inside.halves c.seat.inside.halves e.view c.seat.view_is (e.same.0 ∙ t.same.0) (search rules) refl
