use Rattle.std.proofs.Common.{◌≡◌, ◌-◌, length, None}
use Rattle.cert_read.proofs.ItemByItem.{Passed}
use Rattle.cert_read.proofs.line.skip_items.Given as goal

abbrev pub invariant-loop : goal.invariant-loop
invariant-loop l = record {
  fresh : l.lexer.failed ≡ None;
  lexer_bytes : l.lexer.bytes ≡ l.initial.lexer.bytes;
  table_bytes : l.table.bytes ≡ l.initial.table.bytes;
  passed : Passed l.initial.lexer.bytes l.initial.lexer.place l.lexer.place;
}

abbrev pub decreases-loop : goal.decreases-loop
decreases-loop l = length l.initial.lexer.bytes - l.lexer.place
