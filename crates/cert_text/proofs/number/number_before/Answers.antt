use Rattle.std.proofs.Common.{◌≡◌, false, pos, int_le, to_z-of_z}
use Rattle.cert_text.proofs.Numerals.{minus_before}
use Rattle.cert_text.proofs.number.number_before.Goals as goal

pub returns-clause-written : goal.returns-clause-written
returns-clause-written c =
    let below : int_le (pos 0) c.args.n ≡ false = simp (to_z-of_z c.ranges.n) at c.if-n-ge0.false in
    minus_before c.args.n _ _ _ _ _ _ _ below (simp (to_z-of_z c.ranges.n) at c.unsigned_abs-2.ensures.value) c.byte_before-at.ensures.written c.numeral_before-at.ensures.written
    c.byte_before-at-2.ensures.written c.byte_before-at-3.ensures.written c.byte_before.ensures.written
