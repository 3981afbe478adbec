use Rattle.std.proofs.Common.{◌∙◌, refl, rules}
use Rattle.cert_read.proofs.ItemByItem.{next_some, passed_starts, passed_more, passed_breaks}
use Rattle.cert_read.proofs.line.skip_items.Goals as goal

pub loop-init : goal.loop-init
loop-init c = record { fresh = c.requires.fresh; lexer_bytes = refl; table_bytes = refl; passed = passed_starts c.args.lexer.now.bytes c.args.lexer.now.place }

pub returns-in_err-next_item-clause-err : goal.returns-in_err-next_item-clause-err
returns-in_err-next_item-clause-err c =
    search (rules, passed_breaks c.args.lexer.now.bytes c.args.lexer.now.place c.loop.lexer.place _ c.loop.invariant.passed (rw c.loop.invariant.lexer_bytes at c.in_err-next_item.ensures.err))

pub loop-preserved : goal.loop-preserved
loop-preserved c =
    let next = next_some c.next_item.new.table c.args.lexer.now.bytes c.loop.lexer.place c.next_item.new.lexer.place c.in_ok-next_item.field-0 c.in-Some.field-0 c.in-Some.is (rw c.loop.invariant.lexer_bytes at c.in_ok-next_item.ensures.next) in
    record {
      fresh = c.in_ok-next_item.ensures.fresh;
      lexer_bytes = c.next_item.ensures.lexer_bytes ∙ c.loop.invariant.lexer_bytes;
      table_bytes = c.next_item.ensures.table_bytes ∙ c.loop.invariant.table_bytes;
      passed = passed_more c.args.lexer.now.bytes c.args.lexer.now.place c.loop.lexer.place c.next_item.new.lexer.place next.0 c.loop.invariant.passed next.2;
    }
