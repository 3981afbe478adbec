use Rattle.std.proofs.Common.{[], Option, sym, subst, ◌∙◌, rules}
use Rattle.book_lock.specs.declared.cube.Cube.{Cube}
use Rattle.std.specs.Prelude.{IfSome}
use Rattle.book_core.specs.Runs.{state_of}
use Rattle.book_lock.specs.Seats.{IsCubeNear}
use Rattle.book_lock.specs.code.Looks.{Looked}
use Rattle.book_lock.proofs.Turning.{seen_now, taking_ready, taking_kept, taking_takes}
use Rattle.book_lock.proofs.desk.Desk.take_some.Goals as goal

pub look-requires : goal.look-requires
look-requires g c = seen_now c.seat.inside.number c.seat.inside.made c.seat.inside.token.me _ c.seat.inside.cube c.seat.inside.place c.seat.inside.waits c.enter-book.result c.seat.invariant c.enter-book.ensures.known c.enter-book.ensures.book

pub tell-seat-inside-requires-clause-book : goal.tell-seat-inside-requires-clause-book
tell-seat-inside-requires-clause-book g c =
    let t = c.enter-book.ensures in
    taking_ready c.seat.inside.token.me c.enter-book.result c.look.new.book c.enter-book.new.token.me c.enter-book.new.token.me c.seat.inside.number c.seat.inside.made _ [] c.seat.inside.cube c.in-Ok.cube c.seat.inside.place 0 c.seat.inside.waits c.seat.inside.waits c.seat.inside.token.table_id c.seat.inside.token.table_id c.in-Ok.answer t.book t.view t.known c.seat.invariant (search rules) c.in-Ok.ensures.ok

pub invariant_of-seat : goal.invariant_of-seat
invariant_of-seat g c =
    let t = c.enter-book.ensures in
    let e = c.tell-seat-inside.ensures in
    let looked = subst (λ (o : Option Cube). Looked c.enter-book.result c.seat.inside.number c.in-Ok.answer o c.look.new.book) (sym c.put.ensures) c.in-Ok.ensures.ok in
    taking_kept c.seat.inside.token.me c.enter-book.result c.look.new.book c.enter-book.new.token.me c.tell-seat-inside.new.token.me c.seat.inside.number c.seat.inside.made _ _ c.seat.inside.cube c.put.new.slot c.seat.inside.place c.tell-seat-inside.result c.seat.inside.waits c.waits_after-seat-inside.result c.seat.inside.token.table_id c.seat.inside.token.table_id c.in-Ok.answer t.book t.view t.known c.seat.invariant (search rules) looked e.view c.in-Ok.ensures.lemmas e.count c.waits_after-seat-inside.ensures

pub returns-in-Ok-clause-ok : goal.returns-in-Ok-clause-ok
returns-in-Ok-clause-ok g c =
    let t = c.enter-book.ensures in
    let e = c.tell-seat-inside.ensures in
    let looked = subst (λ (o : Option Cube). Looked c.enter-book.result c.seat.inside.number c.in-Ok.answer o c.look.new.book) (sym c.put.ensures) c.in-Ok.ensures.ok in
    taking_takes c.seat.inside.token.me c.enter-book.result c.look.new.book c.enter-book.new.token.me c.tell-seat-inside.new.token.me c.seat.inside.number c.seat.inside.made _ _ c.seat.inside.cube c.put.new.slot c.seat.inside.place c.tell-seat-inside.result c.seat.inside.waits c.waits_after-seat-inside.result c.seat.inside.token.table_id c.tell-seat-inside.new.token.table_id c.in-Ok.answer t.book t.view t.known c.seat.invariant (search rules) looked _ c.seat.inside.halves c.args.near e.view c.seat.view_is (e.same.0 ∙ t.same.0) c.in-Ok.ensures.lemmas t.news
    (subst (λ (o : Option Cube). IfSome c.args.near (IsCubeNear (state_of c.enter-book.result).cover o)) (sym c.put.ensures) c.in-Ok.ensures.near)
