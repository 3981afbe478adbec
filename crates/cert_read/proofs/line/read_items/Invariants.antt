use Rattle.std.proofs.Common.{◌≡◌, ◌-◌, length, None}
use Rattle.cert_read.proofs.ItemByItem.{ReadTo}
use Rattle.cert_read.proofs.line.read_items.Given as goal

abbrev pub invariant-loop-parts : goal.invariant-loop-parts
invariant-loop-parts g l = record {
  fresh : l.lexer.failed ≡ None;
  lexer_bytes : l.lexer.bytes ≡ l.fn.lexer.bytes;
  table_bytes : l.table.bytes ≡ l.fn.table.bytes;
  read : ReadTo l.fn.lexer.bytes (g.T.Part.meant l.version) l.fn.lexer.place l.parts.items l.lexer.place;
}

abbrev pub decreases-loop-parts : goal.decreases-loop-parts
decreases-loop-parts g l = length l.fn.lexer.bytes - l.lexer.place
