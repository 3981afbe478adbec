use Rattle.std.proofs.lemmas.List.{take_rest}
use Rattle.cert_read.proofs.QuickTexts.{numeral_front}
use Rattle.cert_read.proofs.quick.numeral.Goals as goal

pub returns-clause-text : goal.returns-clause-text
returns-clause-text c =
    numeral_front c.args.bytes.now _ c.digits-value.result.1 c.digits-value.result.0 c.digits-value.ensures.within c.digits-value.ensures.value (c.is_numeral.ensures c.if-not-is_numeral.false) (take_rest c.args.bytes.now c.digits-value.result.1)
