use Rattle.std.proofs.Common.{rules, ap, ◌∙◌, max, ℕ, ℤ, pos, get_or, FitsSigned, w64, unsigned_abs}
use Rattle.std.proofs.lemmas.Int.{to_z-of_z}
use Rattle.idl_linear.specs.declared.summand.Summand.{Summand}
use Rattle.idl_linear.proofs.Greatest.{all_within-more}
use Rattle.idl_linear.proofs.leaf.greatest_of.Goals as goal

pub loop-summand-preserved : goal.loop-summand-preserved
loop-summand-preserved c =
    let d : Summand = record { point = 0; coefficient = pos 0 } in
    let coefficient = (get_or c.args.items.now c.loop-summand.summand-index d).coefficient in
    let fits : FitsSigned w64 coefficient = search rules in
    let number = ap (λ (z : ℤ). unsigned_abs z) (to_z-of_z w64 coefficient fits) in
    all_within-more c.args.items.now c.loop-summand.summand-index c.loop-summand.greatest c.max-greatest.result (record { point = 0; coefficient = pos 0 }) c.loop-summand-test.true c.loop-summand.invariant
    (c.max-greatest.ensures ∙ ap (λ (n : ℕ). max c.loop-summand.greatest n) (c.unsigned_abs.ensures.value ∙ number))
