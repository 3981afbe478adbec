use Rattle.std.proofs.Common.{refl, sym, subst, ◌≡◌, Some, ap, ◌∙◌, rules}
use Rattle.std.specs.Prelude.{IfSome}
use Rattle.book_core.specs.declared.event.Event.TheVariants.{Deliver}
use Rattle.book_core.specs.Books.{IsJustified, IsJustifiedIn}
use Rattle.book_core.specs.Runs.{Ledger, state_of}
use Rattle.book_lock.specs.declared.cube.Cube.{Cube}
use Rattle.book_core.specs.Shared.{lemmas_of}
use Rattle.book_lock.specs.Seats.{sight, Ends}
use Rattle.book_lock.proofs.Turning.{held_by_number, held_in_book, deliver_justified, halves_told, ending_ready, ending_kept, ending_ends}
use Rattle.book_lock.proofs.desk.Desk.enter.Goals as goal

pub enter-requires-clause-held : goal.enter-requires-clause-held
enter-requires-clause-held g c = held_in_book c.seat.inside.number c.seat.inside.made c.seat.inside.token.me _ c.seat.inside.cube c.seat.inside.place c.seat.inside.waits c.take_turn-book.result c.unwrap.result.now c.seat.invariant c.take_turn-book.ensures.known (search rules) c.take_turn-book.ensures.book

pub enter-requires-clause-justified : goal.enter-requires-clause-justified
enter-requires-clause-justified g c =
    let d = c.args.delivery in
    let asked = c.requires.justified in
    deliver_justified c.seat.inside.token.me c.take_turn-book.result c.seat.inside.number c.seat.inside.made _ c.seat.inside.cube c.seat.inside.place c.seat.inside.waits _ c.seat.inside.halves _ c.unwrap.result.now d.batch d.outcome c.seat.view_is c.seat.invariant c.take_turn-book.ensures.known c.take_turn-book.ensures.book (search rules) asked

pub tell-seat-inside-requires-clause-book : goal.tell-seat-inside-requires-clause-book
tell-seat-inside-requires-clause-book g c =
    let t = c.take_turn-book.ensures in
    let d = c.args.delivery in
    let has : c.seat.inside.cube ≡ Some c.unwrap.result.now = search rules in
    let held = held_by_number c.seat.inside.number c.seat.inside.made c.seat.inside.token.me _ c.seat.inside.cube c.seat.inside.place c.seat.inside.waits c.take_turn-book.result c.unwrap.result.now c.seat.invariant t.known has in
    let asked = c.requires.justified in
    let j = subst (λ (k : Ledger). IsJustifiedIn k.problem (state_of k) c.unwrap.result.now.id d.batch d.outcome) t.book
    (deliver_justified c.seat.inside.token.me c.take_turn-book.result c.seat.inside.number c.seat.inside.made _ c.seat.inside.cube c.seat.inside.place c.seat.inside.waits _ c.seat.inside.halves _ c.unwrap.result.now d.batch d.outcome c.seat.view_is c.seat.invariant t.known t.book has asked) in
    ending_ready c.seat.inside.token.me c.take_turn-book.result c.enter.new.self c.take_turn-book.new.token.me c.take_turn-book.new.token.me c.seat.inside.number c.seat.inside.made _ c.seat.inside.cube c.seat.inside.cube c.seat.inside.place 0 c.seat.inside.waits c.seat.inside.token.table_id c.seat.inside.token.table_id c.unwrap.result.now (λ n k. Deliver n k d.batch d.outcome) t.book t.view t.known c.seat.invariant has refl refl refl refl (held, j) c.in-Ok.ensures.ok

pub invariant_of-seat : goal.invariant_of-seat
invariant_of-seat g c =
    let t = c.take_turn-book.ensures in
    let d = c.args.delivery in
    let has : c.seat.inside.cube ≡ Some c.unwrap.result.now = search rules in
    let held = held_by_number c.seat.inside.number c.seat.inside.made c.seat.inside.token.me _ c.seat.inside.cube c.seat.inside.place c.seat.inside.waits c.take_turn-book.result c.unwrap.result.now c.seat.invariant t.known has in
    let asked = c.requires.justified in
    let j = subst (λ (k : Ledger). IsJustifiedIn k.problem (state_of k) c.unwrap.result.now.id d.batch d.outcome) t.book
    (deliver_justified c.seat.inside.token.me c.take_turn-book.result c.seat.inside.number c.seat.inside.made _ c.seat.inside.cube c.seat.inside.place c.seat.inside.waits _ c.seat.inside.halves _ c.unwrap.result.now d.batch d.outcome c.seat.view_is c.seat.invariant t.known t.book has asked) in
    let e = c.tell-seat-inside.ensures in
    ending_kept c.seat.inside.token.me c.take_turn-book.result c.enter.new.self c.take_turn-book.new.token.me c.tell-seat-inside.new.token.me c.seat.inside.number c.seat.inside.made _ c.seat.inside.cube c.put.new.slot c.seat.inside.place c.tell-seat-inside.result c.seat.inside.waits c.seat.inside.token.table_id c.tell-seat-inside.new.token.table_id c.unwrap.result.now (λ n k. Deliver n k d.batch d.outcome) t.book t.view t.known c.seat.invariant has refl refl refl refl (held, j) c.in-Ok.ensures.ok e.view e.count c.put.ensures

pub returns-in-Ok-clause-ok : goal.returns-in-Ok-clause-ok
returns-in-Ok-clause-ok g c =
    let t = c.take_turn-book.ensures in
    let d = c.args.delivery in
    let has : c.seat.inside.cube ≡ Some c.unwrap.result.now = search rules in
    let held = held_by_number c.seat.inside.number c.seat.inside.made c.seat.inside.token.me _ c.seat.inside.cube c.seat.inside.place c.seat.inside.waits c.take_turn-book.result c.unwrap.result.now c.seat.invariant t.known has in
    let asked = c.requires.justified in
    let j = subst (λ (k : Ledger). IsJustifiedIn k.problem (state_of k) c.unwrap.result.now.id d.batch d.outcome) t.book
    (deliver_justified c.seat.inside.token.me c.take_turn-book.result c.seat.inside.number c.seat.inside.made _ c.seat.inside.cube c.seat.inside.place c.seat.inside.waits _ c.seat.inside.halves _ c.unwrap.result.now d.batch d.outcome c.seat.view_is c.seat.invariant t.known t.book has asked) in
    let e = c.tell-seat-inside.ensures in
    let told = halves_told c.seat.inside.token.me.0.begun c.take_turn-book.result c.enter.new.self c.seat.inside.number c.unwrap.result.now.id d.batch d.outcome c.seat.inside.halves c.halves-seat-inside.result t.book c.in-Ok.ensures.ok c.halves-seat-inside.ensures in
    ending_ends c.seat.inside.token.me c.take_turn-book.result c.enter.new.self c.take_turn-book.new.token.me c.tell-seat-inside.new.token.me c.seat.inside.number c.seat.inside.made _ c.seat.inside.cube c.put.new.slot c.seat.inside.place c.tell-seat-inside.result c.seat.inside.waits c.seat.inside.token.table_id c.tell-seat-inside.new.token.table_id c.unwrap.result.now (λ n k. Deliver n k d.batch d.outcome) t.book t.view t.known c.seat.invariant has refl refl refl refl (held, j) c.in-Ok.ensures.ok _ c.seat.inside.halves c.halves-seat-inside.result e.view c.seat.view_is (e.same.0 ∙ t.same.0) c.put.ensures told
