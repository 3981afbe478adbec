use Rattle.std.proofs.Common.{◌≡◌, false, pos, int_le, arith, append_assoc, to_z-of_z}
use Rattle.std.proofs.lemmas.Grind.{common_steps}
use Rattle.cert_text.proofs.Numerals.{minus_text}
use Rattle.cert_text.proofs.number.write_number.Goals as goal

pub returns-clause-ok : goal.returns-clause-ok
returns-clause-ok c =
    let below : int_le (pos 0) c.args.n ≡ false = simp (to_z-of_z c.ranges.n) at c.if-n-ge0.false in
    rw (minus_text c.args.n below) (grind (arith, common_steps, append_assoc))
