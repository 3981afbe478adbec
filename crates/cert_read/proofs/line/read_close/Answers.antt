use Rattle.std.proofs.Common.{rules}
use Rattle.cert_read.proofs.ItemByItem.{next_some, next_none, closed_none, breaks_behind, has_more}
use Rattle.cert_read.proofs.line.read_close.Goals as goal

pub returns-in-None-clause-ok : goal.returns-in-None-clause-ok
returns-in-None-clause-ok c =
    closed_none c.args.lexer.now.bytes c.args.lexer.now.place c.next_item.new.lexer.place
    (next_none c.next_item.new.table c.args.lexer.now.bytes c.args.lexer.now.place c.next_item.new.lexer.place c.in_ok-next_item.field-0 c.in-None.is c.in_ok-next_item.ensures.next)

pub returns-in_err-skip_items-in-Some-clause-err : goal.returns-in_err-skip_items-in-Some-clause-err
returns-in_err-skip_items-in-Some-clause-err c =
    let next = next_some c.next_item.new.table c.args.lexer.now.bytes c.args.lexer.now.place c.next_item.new.lexer.place c.in_ok-next_item.field-0 c.in-Some.field-0 c.in-Some.is c.in_ok-next_item.ensures.next in
    search (rules, breaks_behind c.args.lexer.now.bytes c.args.lexer.now.place c.next_item.new.lexer.place next.0 _ next.2 (rw c.next_item.ensures.lexer_bytes at c.in_err-skip_items-in-Some.ensures.err))

pub returns-in_ok-skip_items-in-Some-clause-err : goal.returns-in_ok-skip_items-in-Some-clause-err
returns-in_ok-skip_items-in-Some-clause-err c =
    let next = next_some c.next_item.new.table c.args.lexer.now.bytes c.args.lexer.now.place c.next_item.new.lexer.place c.in_ok-next_item.field-0 c.in-Some.field-0 c.in-Some.is c.in_ok-next_item.ensures.next in
    has_more c.args.lexer.now.bytes c.args.lexer.now.place c.next_item.new.lexer.place c.skip_items.new.lexer.place next.0 next.2 (rw c.next_item.ensures.lexer_bytes at c.in_ok-skip_items-in-Some.ensures.ok)
