use Rattle.dtp_check.proofs.Walking.{unread_ends}
use Rattle.dtp_check.proofs.script_part.next_command.Goals as goal

pub returns-in-Unread-clause-next : goal.returns-in-Unread-clause-next
returns-in-Unread-clause-next c = unread_ends c.args.lexer.now.bytes c.args.lexer.now.place c.read_next.new.sexprs c.read_next.new.lexer.place _ c.in-Unread.kind c.in-Unread.is c.in_ok-id.ensures.next
