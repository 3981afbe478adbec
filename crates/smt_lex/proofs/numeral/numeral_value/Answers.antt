use Rattle.std.proofs.Common.{◌≡◌, ◌+◌, ◌-◌, ◌*◌, get_or, sym, ◌∙◌, arith}
use Rattle.smt_lex.specs.Numbers.{value_of}
use Rattle.smt_lex.proofs.NumeralValues.{value_at_most, value_from_step, value_from_end}
use Rattle.smt_lex.proofs.numeral.numeral_value.Goals as goal

pub returns-in_err-checked_mul-clause-none : goal.returns-in_err-checked_mul-clause-none
returns-in_err-checked_mul-clause-none c =
    let large = c.in_err-checked_mul.ensures in
    let least = value_at_most c.loop-digit.value c.loop-digit.digit-index c.args.digits.now (omega arith) c.loop-digit.invariant.reads in
    λ _. omega (arith, large, least)

pub returns-in_err-value-clause-none : goal.returns-in_err-value-clause-none
returns-in_err-value-clause-none c =
    let large = c.in_err-value.ensures in
    let product = c.in_ok-checked_mul.ensures.1 in
    let digit = c.from.ensures in
    let least = value_at_most c.loop-digit.value c.loop-digit.digit-index c.args.digits.now (omega arith) c.loop-digit.invariant.reads in
    λ _. omega (arith, large, product, digit, least)

pub loop-digit-preserved : goal.loop-digit-preserved
loop-digit-preserved c =
    let value = c.in_ok-value.ensures in
    let product = c.in_ok-checked_mul.ensures.1 in
    let digit = c.from.ensures in
    let next : c.in_ok-value.value ≡ c.loop-digit.value * 10 + (get_or c.args.digits.now c.loop-digit.digit-index 0 - 48) = omega (arith, value.1, product, digit) in
    record {
      reads = rw next (sym (value_from_step c.loop-digit.value c.loop-digit.digit-index c.args.digits.now (omega arith)) ∙ c.loop-digit.invariant.reads);
      fits = omega (arith, value.0, value.1);
    }

pub returns-clause-some : goal.returns-clause-some
returns-clause-some c =
    let whole : c.loop-digit.value ≡ value_of c.args.digits.now = sym (value_from_end c.loop-digit.value c.loop-digit.digit-index c.args.digits.now c.loop-digit-test.false) ∙ c.loop-digit.invariant.reads in
    (whole, (let fits = c.loop-digit.invariant.fits in omega (arith, whole, fits)))
