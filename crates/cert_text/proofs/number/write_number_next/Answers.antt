use Rattle.std.proofs.Common.{rules, to_z-of_z}
use Rattle.cert_text.proofs.Numerals.{digit_text}
use Rattle.cert_text.proofs.number.write_number_next.Goals as goal

pub returns-then-size-lt10-clause-ok : goal.returns-then-size-lt10-clause-ok
returns-then-size-lt10-clause-ok c =
    rw (digit_text c.args.n c.unsigned_abs-size.result (simp (to_z-of_z c.ranges.n) at c.if-n-ge0.true) (simp (to_z-of_z c.ranges.n) at c.unsigned_abs-size.ensures.value) c.if-size-lt10.true)
    (search rules)
