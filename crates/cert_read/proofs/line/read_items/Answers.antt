use Rattle.std.proofs.Common.{◌∙◌, refl, rules}
use Rattle.cert_read.proofs.ItemByItem.{lacks_any, next_some, read_more, read_breaks, read_breaks_behind, read_lacks}
use Rattle.cert_read.proofs.line.read_items.Goals as goal

pub loop-parts-init : goal.loop-parts-init
loop-parts-init g c = record {
  fresh = c.in_ok-parts.ensures.failed ∙ c.requires.fresh;
  lexer_bytes = c.quick_items.ensures.lexer_bytes;
  table_bytes = refl;
  read = c.in_ok-parts.ensures.items;
}

pub returns-in_err-id-clause-err : goal.returns-in_err-id-clause-err
returns-in_err-id-clause-err g c =
    search (rules, read_breaks c.args.lexer.now.bytes (g.T.Part.meant c.args.version) c.args.lexer.now.place c.loop-parts.lexer.place c.loop-parts.parts.items _ c.loop-parts.invariant.read (rw c.loop-parts.invariant.lexer_bytes at c.in_err-id.ensures.err))

pub loop-parts-preserved : goal.loop-parts-preserved
loop-parts-preserved g c =
    let next = next_some c.next_item.new.table c.args.lexer.now.bytes c.loop-parts.lexer.place c.next_item.new.lexer.place c.in_ok-id.field-0 c.in-Some.id c.in-Some.is (rw c.loop-parts.invariant.lexer_bytes at c.in_ok-id.ensures.next) in
    record {
      fresh = c.in_ok-id.ensures.fresh;
      lexer_bytes = c.next_item.ensures.lexer_bytes ∙ c.loop-parts.invariant.lexer_bytes;
      table_bytes = c.next_item.ensures.table_bytes ∙ c.loop-parts.invariant.table_bytes;
      read = rw c.in_ok-push-in-Ok.ensures.items (read_more c.args.lexer.now.bytes (g.T.Part.meant c.args.version) c.args.lexer.now.place c.loop-parts.lexer.place c.next_item.new.lexer.place c.loop-parts.parts.items c.in-Ok.part next.0
          c.loop-parts.invariant.read next.2 (c.in-Ok.ensures.ok next.0 next.1));
    }

pub returns-in_err-skip_items-in-Err-IllFormed-clause-err : goal.returns-in_err-skip_items-in-Err-IllFormed-clause-err
returns-in_err-skip_items-in-Err-IllFormed-clause-err g c =
    let next = next_some c.next_item.new.table c.args.lexer.now.bytes c.loop-parts.lexer.place c.next_item.new.lexer.place c.in_ok-id.field-0 c.in-Some.id c.in-Some.is (rw c.loop-parts.invariant.lexer_bytes at c.in_ok-id.ensures.next) in
    let same = c.next_item.ensures.lexer_bytes ∙ c.loop-parts.invariant.lexer_bytes in
    search (
      rules,
      read_breaks_behind c.args.lexer.now.bytes (g.T.Part.meant c.args.version) c.args.lexer.now.place c.loop-parts.lexer.place c.next_item.new.lexer.place c.loop-parts.parts.items next.0 _
          c.loop-parts.invariant.read next.2 (rw same at c.in_err-skip_items-in-Err-IllFormed.ensures.err),
    )

pub returns-in-Err-IllFormed-clause-err : goal.returns-in-Err-IllFormed-clause-err
returns-in-Err-IllFormed-clause-err g c =
    let next = next_some c.next_item.new.table c.args.lexer.now.bytes c.loop-parts.lexer.place c.next_item.new.lexer.place c.in_ok-id.field-0 c.in-Some.id c.in-Some.is (rw c.loop-parts.invariant.lexer_bytes at c.in_ok-id.ensures.next) in
    let same = c.next_item.ensures.lexer_bytes ∙ c.loop-parts.invariant.lexer_bytes in
    let nothing = lacks_any (g.T.Part.meant c.args.version next.0) c.in-Err-IllFormed.field-0 c.in-Err-IllFormed.field-0-is (c.in-Err-IllFormed.ensures.err next.0 next.1) in
    read_lacks c.args.lexer.now.bytes (g.T.Part.meant c.args.version) c.args.lexer.now.place c.loop-parts.lexer.place c.next_item.new.lexer.place c.skip_items.new.lexer.place c.loop-parts.parts.items next.0
    c.loop-parts.invariant.read next.2 nothing (rw same at c.in_ok-skip_items-in-Err-IllFormed.ensures.ok)
