use Rattle.std.proofs.Common.{rules, ap, sym, arith, ◌∙◌, ◌≡◌, ◌+ℤ◌, ◌-ℤ◌, neg_ℤ, Bool, FitsSigned}
use Rattle.std.proofs.lemmas.Int.{ints, wrapping_add_is, wrapping_sub_is}
use Rattle.std.specs.Int.{w128, int_wrap}
use Rattle.idl_value.specs.code.Looking.{whole_number}
use Rattle.idl_value.proofs.pending.Pending.with.Goals as goal

pub returns-then-self : goal.returns-then-self
returns-then-self c =
    let sum = c.args.self.sum in
    let value = c.args.value in
    let fits : FitsSigned w128 sum = search rules in
    let less : sum -ℤ value ≡ sum +ℤ neg_ℤ value = omega (arith, ints) in
    wrapping_sub_is w128 sum value fits c.ranges.value ∙ ap (int_wrap w128) less ∙ ap (λ (b : Bool). whole_number b sum value) (sym c.if-self.true)

pub returns-else-self : goal.returns-else-self
returns-else-self c =
    let sum = c.args.self.sum in
    let value = c.args.value in
    let fits : FitsSigned w128 sum = search rules in
    wrapping_add_is w128 sum value fits c.ranges.value ∙ ap (λ (b : Bool). whole_number b sum value) (sym c.if-self.false)
