use Rattle.std.proofs.Common.{rules}
use Rattle.cert_read.proofs.ItemByItem.{lacks_any, next_some, next_none}
use Rattle.cert_read.proofs.FirstParts.{first_missing, first_breaks, first_breaks_behind, first_lacks}
use Rattle.cert_read.proofs.line.read_part.Goals as goal

pub returns-in_err-next_item-clause-err : goal.returns-in_err-next_item-clause-err
returns-in_err-next_item-clause-err g c =
    search (rules, first_breaks c.args.lexer.now.bytes (g.T.Part.meant c.args.version) c.args.lexer.now.place _ c.in_err-next_item.ensures.err)

pub returns-in-None-clause-err : goal.returns-in-None-clause-err
returns-in-None-clause-err g c =
    first_missing c.args.lexer.now.bytes (g.T.Part.meant c.args.version) c.args.lexer.now.place c.next_item.new.lexer.place
    (next_none c.next_item.new.table c.args.lexer.now.bytes c.args.lexer.now.place c.next_item.new.lexer.place c.in_ok-next_item.field-0 c.in-None.is c.in_ok-next_item.ensures.next)

pub returns-in-Ok-clause-ok : goal.returns-in-Ok-clause-ok
returns-in-Ok-clause-ok g c =
    let next = next_some c.next_item.new.table c.args.lexer.now.bytes c.args.lexer.now.place c.next_item.new.lexer.place c.in_ok-next_item.field-0 c.in-Some.id c.in-Some.is c.in_ok-next_item.ensures.next in
    (next.0, next.2, c.in-Ok.ensures.ok next.0 next.1)

pub returns-in_err-skip_items-in-Err-IllFormed-clause-err : goal.returns-in_err-skip_items-in-Err-IllFormed-clause-err
returns-in_err-skip_items-in-Err-IllFormed-clause-err g c =
    let next = next_some c.next_item.new.table c.args.lexer.now.bytes c.args.lexer.now.place c.next_item.new.lexer.place c.in_ok-next_item.field-0 c.in-Some.id c.in-Some.is c.in_ok-next_item.ensures.next in
    search (rules, first_breaks_behind c.args.lexer.now.bytes (g.T.Part.meant c.args.version) c.args.lexer.now.place c.next_item.new.lexer.place next.0 _ next.2 (rw c.next_item.ensures.lexer_bytes at c.in_err-skip_items-in-Err-IllFormed.ensures.err))

pub returns-in_ok-skip_items-in-Err-IllFormed-clause-err : goal.returns-in_ok-skip_items-in-Err-IllFormed-clause-err
returns-in_ok-skip_items-in-Err-IllFormed-clause-err g c =
    let next = next_some c.next_item.new.table c.args.lexer.now.bytes c.args.lexer.now.place c.next_item.new.lexer.place c.in_ok-next_item.field-0 c.in-Some.id c.in-Some.is c.in_ok-next_item.ensures.next in
    let nothing = lacks_any (g.T.Part.meant c.args.version next.0) c.in-Err-IllFormed.field-0 c.in-Err-IllFormed.field-0-is (c.in-Err-IllFormed.ensures.err next.0 next.1) in
    first_lacks c.args.lexer.now.bytes (g.T.Part.meant c.args.version) c.args.lexer.now.place c.next_item.new.lexer.place c.skip_items.new.lexer.place next.0 next.2 nothing
    (rw c.next_item.ensures.lexer_bytes at c.in_ok-skip_items-in-Err-IllFormed.ensures.ok)
