use Rattle.std.proofs.Common.{ℕ, ◌≤◌, ◌∙◌, ap, arith, length, List, drop, ◌++◌, decimal}
use Rattle.std.proofs.lemmas.Fmt.{length-decimal-le}
use Rattle.cert_text.proofs.Numerals.{numeral_from_decimal, one_before, two_before}
use Rattle.cert_text.proofs.number.numeral_before.Goals as goal

pub write_digits-requires : goal.write_digits-requires
write_digits-requires c =
    let digits : length (decimal c.args.n) ≤ 20 = length-decimal-le 20 c.args.n (omega arith) (omega (arith, c.ranges.n.fits)) c.ranges.n.fits in
    let room = c.requires.0 in (omega arith, c.requires.1)

pub returns-clause-start : goal.returns-clause-start
returns-clause-start c =
    let digits : length (decimal c.args.n) ≤ 20 = length-decimal-le 20 c.args.n (omega arith) (omega (arith, c.ranges.n.fits)) c.ranges.n.fits in
    let start = c.write_digits.ensures.start in (omega arith, omega arith)

pub returns-clause-written : goal.returns-clause-written
returns-clause-written c =
    c.write_digits.ensures.written ∙ ap (λ (ds : List ℕ). ds ++ drop c.args.end c.args.text.now) (numeral_from_decimal c.args.n (omega (arith, c.ranges.n.fits)))

pub returns-then-n-lt10-clause-written : goal.returns-then-n-lt10-clause-written
returns-then-n-lt10-clause-written c =
    let small = c.if-n-lt10.true in
    one_before c.args.n _ _ _ (omega (arith, small)) (omega (arith, small)) c.byte_before.ensures.written

pub returns-then-n-lt100-clause-written : goal.returns-then-n-lt100-clause-written
returns-then-n-lt100-clause-written c =
    let some = c.if-n-lt10.false in
    let small = c.if-n-lt100.true in
    two_before c.args.n _ _ _ _ _ (omega (arith, some)) (omega (arith, small)) (omega (arith, small)) (omega (arith, small)) c.byte_before-at.ensures.written c.byte_before-then-n-lt100.ensures.written
