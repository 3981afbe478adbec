use Rattle.std.proofs.Common.{◌∙◌, refl}
use Rattle.cert_read.proofs.ItemByItem.{read_starts, read_more}
use Rattle.cert_read.proofs.line.quick_items.Goals as goal

pub loop-parts-init : goal.loop-parts-init
loop-parts-init g c = record {
  failed = refl;
  lexer_bytes = refl;
  read = rw c.new-parts.ensures.items (read_starts c.args.lexer.now.bytes (g.T.Part.meant c.args.version) c.args.lexer.now.place);
}

pub loop-parts-preserved : goal.loop-parts-preserved
loop-parts-preserved g c =
    let one = rw c.in-Some.is at c.in_ok-part.ensures.some in
    let here = rw c.loop-parts.invariant.lexer_bytes at one in
    record {
      failed = c.quick_item.ensures.failed ∙ c.loop-parts.invariant.failed;
      lexer_bytes = c.quick_item.ensures.lexer_bytes ∙ c.loop-parts.invariant.lexer_bytes;
      read = rw c.in_ok-push.ensures.items (read_more c.args.lexer.now.bytes (g.T.Part.meant c.args.version) c.args.lexer.now.place c.loop-parts.lexer.place c.quick_item.new.lexer.place c.loop-parts.parts.items c.in-Some.part here.0
          c.loop-parts.invariant.read here.1 here.2);
    }
