use Rattle.std.proofs.Common.{length}
use Rattle.cert_text.specs.Form.{literal_sexpr}
use Rattle.cert_read.specs.code.Quick.{LiteralFits, Adds}
use Rattle.cert_read.proofs.quick.literals_behind.Given as goal

abbrev pub invariant-loop-literal : goal.invariant-loop-literal
invariant-loop-literal l = record { adds : Adds literal_sexpr LiteralFits l.fn.literals.items l.literals.items l.bytes l.rest }

abbrev pub decreases-loop-literal : goal.decreases-loop-literal
decreases-loop-literal l = length l.rest
