use Rattle.cert_read.proofs.ShortNumerals.{one_in_front, two_in_front, three_in_front}
use Rattle.cert_read.proofs.quick.short_numeral.Goals as goal

pub returns-in-len2-up-clause-text : goal.returns-in-len2-up-clause-text
returns-in-len2-up-clause-text c =
    one_in_front c.args.bytes.now c.args.end c.from.result c.in-len2-up.len_at_least c.if-e-end.true (c.is_digit.ensures c.if-is_digit.true) c.from.ensures

pub returns-in-len3-up-clause-text : goal.returns-in-len3-up-clause-text
returns-in-len3-up-clause-text c =
    two_in_front c.args.bytes.now c.args.end c.from-in-len3-up.result c.from-in-len3-up-2.result c.in-len3-up.len_at_least c.if-e-end-2.true
    (c.is_leading.ensures c.if-is_leading.true) (c.is_digit-then-is_leading.ensures c.if-is_digit-2.true) c.from-in-len3-up.ensures c.from-in-len3-up-2.ensures

pub returns-in-len4-up-clause-text : goal.returns-in-len4-up-clause-text
returns-in-len4-up-clause-text c =
    three_in_front c.args.bytes.now c.args.end c.from-in-len4-up.result c.from-in-len4-up-2.result c.from-in-len4-up-3.result c.in-len4-up.len_at_least c.if-e-end-3.true
    (c.is_leading-then-e-end-3.ensures c.if-is_leading-2.true) (c.is_digit-then-is_leading-2.ensures c.if-is_digit-3.true) (c.is_digit-then-is_digit-3.ensures c.if-is_digit-4.true)
    c.from-in-len4-up.ensures c.from-in-len4-up-2.ensures c.from-in-len4-up-3.ensures
