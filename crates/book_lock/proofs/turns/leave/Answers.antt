use Rattle.std.proofs.Common.{arith, ◌∙◌}
use Rattle.book_lock.specs.Rules.{Mine}
use Rattle.book_lock.proofs.Steps.{put_in, leaves_at}
use Rattle.book_lock.proofs.turns.leave.Goals as goal

pub store-requires : goal.store-requires
store-requires c =
    let old : Mine = c.args.token.now.me in
    let is = put_in c.exchange.new.seat.me old c.args.book c.exchange.ensures.3 c.requires.turn.0 in
    (c.exchange.ensures.0 ∙ c.requires.table.0, omega (arith, c.requires.table.1), leaves_at _ _ _ _ old.0 c.args.book is c.requires.table.2 c.requires.turn.1 c.requires.turn.2 c.requires.book)
