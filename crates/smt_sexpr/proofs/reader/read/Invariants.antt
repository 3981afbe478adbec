use Rattle.std.proofs.Common.{◌-◌, length}
use Rattle.smt_sexpr.specs.Table.{table_of}
use Rattle.smt_sexpr.proofs.ReadingLoop.{Reading}
use Rattle.smt_sexpr.proofs.reader.read.Given as goal

abbrev pub invariant-tokens : goal.invariant-tokens
invariant-tokens l = Reading l.initial.lexer (table_of l.initial.lexer.bytes l.initial.nodes.items l.initial.items.items) l.lexer l.nodes.items l.items.items l.stack.items l.pending.items

abbrev pub decreases-tokens : goal.decreases-tokens
decreases-tokens l = length l.initial.lexer.bytes - l.lexer.place
