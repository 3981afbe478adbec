use Rattle.smt_lex.proofs.NumeralValues.{digits_of_numeral}
use Rattle.smt_lex.proofs.numeral.numeral_digits.Goals as goal

pub returns : goal.returns
returns c = digits_of_numeral
