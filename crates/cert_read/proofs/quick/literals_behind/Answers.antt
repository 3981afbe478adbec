use Rattle.cert_text.specs.Form.{literal_sexpr}
use Rattle.cert_read.specs.code.Quick.{LiteralFits}
use Rattle.cert_read.proofs.QuickTexts.{adds_more, adds_all}
use Rattle.cert_read.proofs.quick.literals_behind.Goals as goal

pub loop-literal-preserved : goal.loop-literal-preserved
loop-literal-preserved c = record {
  adds = adds_more literal_sexpr LiteralFits c.args.literals.now.items c.loop-literal.literals.items c.push.new.self.items c.args.bytes.now c.loop-literal.rest.now c.in-Some.behind.now c.in-Some.literal
      c.loop-literal.invariant.adds c.in_ok-push.ensures.items c.in-Some.ensures.1 c.in-Some.ensures.0;
}

pub returns-in-Some-behind_byte : goal.returns-in-Some-behind_byte
returns-in-Some-behind_byte c =
    adds_all literal_sexpr LiteralFits c.args.literals.now.items c.loop-literal.literals.items c.args.bytes.now c.loop-literal.rest.now c.in-Some-behind_byte.behind.now
    c.loop-literal.invariant.adds c.in-Some-behind_byte.ensures
