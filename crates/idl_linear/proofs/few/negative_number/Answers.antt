use Rattle.std.proofs.Common.{refl, arith, false}
use Rattle.std.proofs.lemmas.Int.{ints}
use Rattle.idl_linear.proofs.FewSummands.{negative_alone}
use Rattle.idl_linear.proofs.Finishing.{constant_low, constant_high}
use Rattle.idl_linear.proofs.few.negative_number.Goals as goal

pub returns-clause-sum : goal.returns-clause-sum
returns-clause-sum c =
    let l = c.args.term.now in
    let n = c.constant.result in
    let low = constant_low false l n n c.constant.ensures.linear c.constant.ensures.number refl in
    let high = constant_high false l n n c.constant.ensures.linear c.constant.ensures.number refl in
    negative_alone _ l _ c.number.ensures (c.is_number.ensures.none c.if-not-is_number.false) (omega (arith, ints, low, high))
