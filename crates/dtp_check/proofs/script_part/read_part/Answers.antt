use Rattle.std.proofs.Common.{arith, ◌+◌, ◌∙◌, sym, subst, List, ℕ}
use Rattle.dtp_check.proofs.Walking.{IsWalked, walked_more, command_read, end_read, command_goes_on, walk_exits, walk_ends}
use Rattle.dtp_check.proofs.script_part.read_part.Goals as goal

pub returns-then-is_exit-clause-part : goal.returns-then-is_exit-clause-part
returns-then-is_exit-clause-part c =
    let command = command_read c.script.lexer.bytes c.script.lexer.place c.next_command.new.sexprs c.next_command.new.lexer.place _ c.in-Command.id c.in-Command.is c.in_ok-id.ensures.next in
    walk_exits c.args.lexer.now.bytes c.script.lexer.bytes c.script.lexer.place c.script.commands c.script.invariant.lexed c.script.invariant.walked _ c.in-Command.id _ c.is_exit.result command (c.is_exit.ensures command.x command.means) c.if-is_exit.true

pub script-preserved : goal.script-preserved
script-preserved c =
    let command = command_read c.script.lexer.bytes c.script.lexer.place c.next_command.new.sexprs c.next_command.new.lexer.place _ c.in-Command.id c.in-Command.is c.in_ok-id.ensures.next in
    let more = walked_more c.script.lexer.bytes c.script.lexer.place c.next_command.new.lexer.place c.script.commands command.x c.script.invariant.walked command.spells command.apart (sym (c.is_exit.ensures command.x command.means) ∙ c.if-is_exit.false) in
    let same = c.in_ok-id.ensures.lexer_bytes in
    let goes = command_goes_on _ c.in-Command.id c.in-Command.is in
    let forward = c.in_ok-id.ensures.forward goes in
    let few = c.script.invariant.few in
    record {
      walked = subst (λ (b : List ℕ). IsWalked b c.next_command.new.lexer.place (c.script.commands + 1)) (sym same) more;
      lexed = same ∙ c.script.invariant.lexed;
      tabled = c.in_ok-id.ensures.table_bytes ∙ c.script.invariant.tabled ∙ sym same;
      fresh = c.in_ok-id.ensures.fresh goes;
      within = c.in_ok-id.ensures.within goes;
      few = omega (arith, forward, few);
    }

pub returns-in-Ended-clause-part : goal.returns-in-Ended-clause-part
returns-in-Ended-clause-part c =
    walk_ends c.args.lexer.now.bytes c.script.lexer.bytes c.script.lexer.place c.script.commands c.script.invariant.lexed c.script.invariant.walked c.in-Ended.end _
    (end_read c.script.lexer.bytes c.script.lexer.place c.next_command.new.sexprs c.next_command.new.lexer.place _ c.in-Ended.end c.in-Ended.is c.in_ok-id.ensures.next)
