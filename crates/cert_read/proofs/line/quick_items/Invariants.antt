use Rattle.std.proofs.Common.{◌≡◌, ◌-◌, length}
use Rattle.cert_read.specs.code.Quick.{ReadsTo}
use Rattle.cert_read.proofs.line.quick_items.Given as goal

abbrev pub invariant-loop-parts : goal.invariant-loop-parts
invariant-loop-parts g l = record {
  failed : l.lexer.failed ≡ l.fn.lexer.failed;
  lexer_bytes : l.lexer.bytes ≡ l.fn.lexer.bytes;
  read : ReadsTo (g.T.Part.meant l.version) l.fn.lexer.bytes l.fn.lexer.place l.parts.items l.lexer.place;
}

abbrev pub decreases-loop-parts : goal.decreases-loop-parts
decreases-loop-parts g l = length l.fn.lexer.bytes - l.lexer.place
