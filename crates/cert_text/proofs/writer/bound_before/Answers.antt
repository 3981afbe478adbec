use Rattle.std.proofs.Common.{to_z-of_z, rules, FitsSigned, w64}
use Rattle.cert_text.proofs.Numerals.{bound_before}
use Rattle.cert_text.proofs.writer.bound_before.Goals as goal

pub returns-clause-written : goal.returns-clause-written
returns-clause-written c =
    let bound_fits : FitsSigned w64 c.args.literal.c = search rules in
    bound_before c.args.literal.x c.args.literal.y _ _ _ _ _ _ _ _ _ _ c.from-2.ensures c.from.ensures
    c.byte_before-at.ensures.written (simp (to_z-of_z bound_fits) at c.number_before-at.ensures.written) c.byte_before-at-2.ensures.written
    c.numeral_before-at.ensures.written c.byte_before-at-3.ensures.written c.numeral_before.ensures.written
