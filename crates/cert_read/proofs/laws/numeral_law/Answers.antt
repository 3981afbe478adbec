use Rattle.cert_text.proofs.OneEntry.{numeral_value}
use Rattle.cert_read.proofs.NumeralTexts.{text_of_value}
use Rattle.cert_read.proofs.laws.numeral_law.Goals as goal

pub returns : goal.returns
returns c = record { text = text_of_value; value = numeral_value }
