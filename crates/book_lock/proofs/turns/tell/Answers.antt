use Rattle.std.proofs.Common.{arith, ap, sym, ◌∙◌, rules}
use Rattle.book_core.specs.Runs.{Ledger}
use Rattle.book_lock.specs.Begun.{with_events}
use Rattle.book_lock.specs.Rules.{Mine, telling}
use Rattle.book_lock.specs.declared.view.View.{View}
use Rattle.book_lock.proofs.Steps.{put_in, leaves_at, tells_at, told}
use Rattle.book_lock.proofs.turns.tell.Goals as goal

pub store-requires : goal.store-requires
store-requires c =
    let old : Mine = c.args.token.now.me in
    let book = c.requires.book in
    let is = put_in c.exchange-empty.new.seat.me old c.args.book c.exchange-empty.ensures.3 c.requires.turn.0 in
    (c.exchange-empty.ensures.0 ∙ c.requires.table.0, omega (arith, c.requires.table.1), tells_at _ _ _ _ _ old.0 c.args.book book.0 is c.requires.table.2 c.requires.turn.1 c.requires.turn.2 book.2 book.3 (ap (λ (b : Ledger). b.journal) book.1) (search rules))

pub store-requires-2 : goal.store-requires-2
store-requires-2 c =
    let old : Mine = c.args.token.now.me in
    let book = c.requires.book in
    let w : View = telling old.0 c.args.book.journal in
    let is = put_in c.exchange-empty.new.seat.me old c.args.book c.exchange-empty.ensures.3 c.requires.turn.0 in
    let now = told c.store.new.seat.me c.exchange-empty.new.seat.me old.0 c.args.book c.store.ensures.2 is in
    (c.store.ensures.0 ∙ c.exchange-empty.ensures.0 ∙ c.requires.table.0, omega (arith, c.requires.table.1), leaves_at _ _ _ _ w c.args.book now c.requires.table.2 c.requires.turn.1 c.requires.turn.2 (book.1 ∙ sym (ap (λ (k : Ledger). with_events old.0.begun k.journal) book.1)))
