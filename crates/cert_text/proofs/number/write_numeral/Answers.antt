use Rattle.std.proofs.Common.{arith, rules}
use Rattle.cert_text.proofs.Numerals.{numeral_from_decimal, numeral_of_digit}
use Rattle.cert_text.proofs.number.write_numeral.Goals as goal

pub returns-then-n-lt10-clause-ok : goal.returns-then-n-lt10-clause-ok
returns-then-n-lt10-clause-ok c =
    let digit = c.if-n-lt10.true in
    rw (numeral_of_digit c.args.n (omega (arith, digit))) (search rules)

pub returns-clause-ok : goal.returns-clause-ok
returns-clause-ok c = rw (← (numeral_from_decimal c.args.n c.ranges.n.fits)) (search rules)
